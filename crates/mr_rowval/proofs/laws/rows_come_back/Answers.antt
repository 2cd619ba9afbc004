use Rattle.mr_rowval.proofs.RowAgain.{row_again}
use Rattle.mr_rowval.proofs.laws.rows_come_back.Goals as goal

pub returns : goal.returns
returns c = row_again
