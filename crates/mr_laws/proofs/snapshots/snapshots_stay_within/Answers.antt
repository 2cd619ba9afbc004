use Rattle.mr_laws.proofs.Parking.{step-within}
use Rattle.mr_laws.proofs.snapshots.snapshots_stay_within.Goals as goal

pub returns-clause-after : goal.returns-clause-after
returns-clause-after c = step-within
