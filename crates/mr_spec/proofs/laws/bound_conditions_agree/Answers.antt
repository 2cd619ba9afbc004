use Rattle.mr_spec.proofs.Binds.{truth-bound}
use Rattle.mr_spec.proofs.laws.bound_conditions_agree.Goals as goal

pub returns : goal.returns
returns c = truth-bound
