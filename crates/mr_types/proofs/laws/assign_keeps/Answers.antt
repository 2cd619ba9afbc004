use Rattle.mr_types.proofs.Kept.{keeps}
use Rattle.mr_types.proofs.laws.assign_keeps.Goals as goal

pub returns : goal.returns
returns c = keeps
