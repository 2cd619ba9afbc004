use Rattle.mr_spec.proofs.Runs.{snapshot-stays}
use Rattle.mr_spec.proofs.laws.snapshots_stay.Goals as goal

pub returns : goal.returns
returns c = snapshot-stays
