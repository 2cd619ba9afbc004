use Rattle.std.proofs.Common.{arith}
use Rattle.std.specs.Option.{option_copied}
use Rattle.mr_plan.proofs.Steps.{best-step}
use Rattle.mr_plan.proofs.choice.best.Goals as goal

pub loop-at-preserved : goal.loop-at-preserved
loop-at-preserved c =
    best-step c.args.def.now (option_copied c.args.expr) c.args.needed c.args.def.now.secondary c.loop-at.at c.loop-at.best c.better-best.result c.in_ok-most.most c.in_ok-next.next _ (omega arith) c.better-best.ensures c.in_ok-most.ensures c.in_ok-next.ensures c.loop-at.invariant
