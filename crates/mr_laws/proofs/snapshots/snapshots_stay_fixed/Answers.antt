use Rattle.mr_laws.proofs.Staying.{snapshot-stays}
use Rattle.mr_laws.proofs.snapshots.snapshots_stay_fixed.Goals as goal

pub returns : goal.returns
returns c = snapshot-stays
