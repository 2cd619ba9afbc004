use Rattle.std.proofs.Common.{◌≡◌, ℕ, List, [], drop}
use Rattle.std.specs.Prelude.{◌&&◌}
use Rattle.std.specs.Option.{option_copied}
use Rattle.mr_ranges.specs.Ranges.{in_some, AreApart}
use Rattle.mr_plan.specs.Keys.{index_says}
use Rattle.mr_plan.proofs.keys.index_ranges.Given as goal

abbrev pub invariant-loop-place : goal.invariant-loop-place
invariant-loop-place l = record {
  apart : AreApart l.ranges;
  same : (key : List ℕ) → (in_some key l.ranges && index_says l.def (option_copied l.expr) l.front (drop l.place-index l.places) key) ≡ index_says l.def (option_copied l.expr) [] l.places key;
}
