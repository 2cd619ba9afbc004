use Rattle.mr_laws.proofs.Parking.{others-parked, session-turns}
use Rattle.mr_laws.proofs.snapshots.sessions_are_parked.Goals as goal

pub returns-clause-others : goal.returns-clause-others
returns-clause-others c = others-parked

pub returns-clause-session : goal.returns-clause-session
returns-clause-session c = session-turns
