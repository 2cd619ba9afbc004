use Rattle.mr_spelling.proofs.CanonicalRead.{own-text-read}
use Rattle.mr_spelling.proofs.texts.each_statement_has_a_text.Goals as goal

pub returns : goal.returns
returns c = own-text-read
