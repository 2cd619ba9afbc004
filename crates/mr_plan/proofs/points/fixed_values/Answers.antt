use Rattle.std.proofs.Common.{arith}
use Rattle.std.specs.Option.{option_copied}
use Rattle.mr_plan.proofs.OnePoint.{values-more}
use Rattle.mr_plan.proofs.points.fixed_values.Goals as goal

pub loop-place-preserved : goal.loop-place-preserved
loop-place-preserved c =
    values-more (option_copied c.args.expr) c.args.def.now.columns c.loop-place.place c.loop-place.values c.push.new.self _ c.in_ok-fixed_value.field-0 (omega arith) c.in_ok-fixed_value.ensures c.in_ok-push.ensures.ok c.loop-place.invariant
