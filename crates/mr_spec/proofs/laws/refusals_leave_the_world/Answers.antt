use Rattle.mr_spec.proofs.Leaving.{refusal-leaves}
use Rattle.mr_spec.proofs.laws.refusals_leave_the_world.Goals as goal

pub returns : goal.returns
returns c = refusal-leaves
