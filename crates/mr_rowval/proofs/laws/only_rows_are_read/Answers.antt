use Rattle.mr_rowval.proofs.EntryTakes.{row_takes}
use Rattle.mr_rowval.proofs.laws.only_rows_are_read.Goals as goal

pub returns : goal.returns
returns c = row_takes
