use Rattle.mr_laws.proofs.Staying.{others-stay}
use Rattle.mr_laws.proofs.snapshots.other_sessions_stay.Goals as goal

pub returns : goal.returns
returns c = others-stay
