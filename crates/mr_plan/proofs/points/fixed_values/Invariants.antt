use Rattle.std.proofs.Common.{◌≡◌, ◌++◌, drop}
use Rattle.std.specs.Option.{option_copied}
use Rattle.mr_plan.specs.Points.{fixed_from}
use Rattle.mr_plan.proofs.points.fixed_values.Given as goal

abbrev pub invariant-loop-place : goal.invariant-loop-place
invariant-loop-place l = l.values ++ fixed_from (option_copied l.expr) l.place (drop l.place l.def.columns) ≡ fixed_from (option_copied l.expr) 0 l.def.columns
