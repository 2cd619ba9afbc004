use Rattle.mr_laws.proofs.Leaving.{left-by-step}
use Rattle.mr_laws.proofs.refusals.refusals_leave_by_their_codes.Goals as goal

pub returns : goal.returns
returns c = left-by-step
