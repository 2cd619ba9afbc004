use Rattle.mr_table_rows.proofs.Checked.{checked-has}
use Rattle.mr_table_rows.proofs.definitions.checked_definitions_have_stamp_columns.Goals as goal

pub returns : goal.returns
returns c = checked-has
