use Rattle.mr_memcmp.proofs.Fitted.{row_fits}
use Rattle.mr_memcmp.proofs.laws.rows_fit.Goals as goal

pub returns : goal.returns
returns c = row_fits
