use Rattle.mr_table_rows.proofs.Checked.{checked-has}
use Rattle.mr_table_rows.proofs.OneRow.{lawful-row}
use Rattle.mr_row_laws.proofs.CheckedDefinitions.{checked_is_codable}
use Rattle.mr_row_laws.proofs.lawful_rows_are_codable.Goals as goal

pub returns : goal.returns
returns c = λ def row checked lawful small. (checked_is_codable checked.0 def checked.2, lawful-row def row (checked-has def checked) lawful small)
