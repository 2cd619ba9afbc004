use Rattle.mr_table_rows.proofs.Checked.{lawful-has}
use Rattle.mr_table_rows.proofs.definitions.lawful_tables_have_stamp_columns.Goals as goal

pub returns : goal.returns
returns c = lawful-has
