use Rattle.std.proofs.Common.{◌≡◌, ◌+◌, ◌≤◌, drop}
use Rattle.std.specs.Option.{option_copied}
use Rattle.mr_plan.specs.Choice.{fixed_count}
use Rattle.mr_plan.proofs.choice.fixed_count.Given as goal

abbrev pub invariant-loop-place : goal.invariant-loop-place
invariant-loop-place l = record {
  counted : l.count + fixed_count (option_copied l.expr) (drop l.place-index l.places) ≡ fixed_count (option_copied l.expr) l.places;
  within : l.count ≤ l.place-index;
}
