use Rattle.mr_bound.proofs.SelectsAgree.{selections_agree}
use Rattle.mr_bound.proofs.laws.bound_selects_agree.Goals as goal

pub returns : goal.returns
returns c = selections_agree
