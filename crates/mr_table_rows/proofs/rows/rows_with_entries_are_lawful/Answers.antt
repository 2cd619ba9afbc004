use Rattle.mr_table_rows.proofs.OneRow.{row-lawful}
use Rattle.mr_table_rows.proofs.rows.rows_with_entries_are_lawful.Goals as goal

pub returns : goal.returns
returns c = row-lawful
