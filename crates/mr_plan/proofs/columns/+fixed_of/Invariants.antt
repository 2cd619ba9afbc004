use Rattle.std.proofs.Common.{◌≡◌, map, drop}
use Rattle.mr_plan.specs.Columns.{first_some, fixed_of}
use Rattle.mr_plan.proofs.columns.+fixed_of.Given as goal

abbrev pub invariant-loop-part : goal.invariant-loop-part
invariant-loop-part l = first_some (map (fixed_of l.place) (drop l.part-index l.part-items)) ≡ first_some (map (fixed_of l.place) l.part-items)
