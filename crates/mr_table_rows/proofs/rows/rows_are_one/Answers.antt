use Rattle.mr_table_rows.proofs.OneRow.{rows-are-one}
use Rattle.mr_table_rows.proofs.rows.rows_are_one.Goals as goal

pub returns : goal.returns
returns c = rows-are-one
