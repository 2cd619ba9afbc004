use Rattle.mr_bound.proofs.UpdatesAgree.{assignments_agree}
use Rattle.mr_bound.proofs.laws.bound_assignments_agree.Goals as goal

pub returns : goal.returns
returns c = assignments_agree
