use Rattle.mr_plan.proofs.Covering.{covers_by}
use Rattle.mr_plan.proofs.choice.is_covering.Goals as goal

pub returns : goal.returns
returns c = covers_by c.args.def.now c.args.index c.args.needed c.covers.result c.covers.ensures.primary c.covers.ensures.all c.covers.ensures.not_all
