use Rattle.mr_spelling.proofs.TextsRead.{text-read}
use Rattle.mr_spelling.proofs.texts.texts_are_read.Goals as goal

pub returns : goal.returns
returns c = text-read
