use Rattle.std.proofs.Common.{◌≡◌, drop}
use Rattle.std.specs.Option.{option_copied}
use Rattle.mr_plan.specs.Points.{are_fixed}
use Rattle.mr_plan.proofs.points.are_fixed.Given as goal

abbrev pub invariant-loop-place : goal.invariant-loop-place
invariant-loop-place l = are_fixed l.def (option_copied l.expr) (drop l.place-index l.places) ≡ are_fixed l.def (option_copied l.expr) l.places
