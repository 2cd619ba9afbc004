use Rattle.mr_plan.proofs.Covering.{covers-is}
use Rattle.mr_plan.proofs.laws.covering_is_reaching.Goals as goal

pub returns : goal.returns
returns c = covers-is
