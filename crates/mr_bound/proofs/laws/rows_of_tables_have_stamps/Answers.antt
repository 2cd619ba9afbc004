use Rattle.mr_bound.proofs.StampsFit.{rows_have_stamps}
use Rattle.mr_bound.proofs.laws.rows_of_tables_have_stamps.Goals as goal

pub returns : goal.returns
returns c = rows_have_stamps
