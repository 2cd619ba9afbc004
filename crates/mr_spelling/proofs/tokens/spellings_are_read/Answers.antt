use Rattle.mr_spelling.proofs.StatementsRead.{spelling-read}
use Rattle.mr_spelling.proofs.tokens.spellings_are_read.Goals as goal

pub returns : goal.returns
returns c = spelling-read
