use Rattle.mr_schema.proofs.RowsFit.{row_fits}
use Rattle.mr_schema.proofs.laws.rows_of_tables_fit.Goals as goal

pub returns : goal.returns
returns c = row_fits
