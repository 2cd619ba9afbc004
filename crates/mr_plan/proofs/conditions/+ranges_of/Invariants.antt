use Rattle.std.proofs.Common.{◌≡◌, ℕ, List, map, drop}
use Rattle.std.specs.Prelude.{◌&&◌, ◌||◌}
use Rattle.std.specs.List.{list_any, list_all}
use Rattle.mr_ranges.specs.Ranges.{in_some, AreApart}
use Rattle.mr_plan.specs.Tests.{whole, says_of}
use Rattle.mr_plan.proofs.conditions.+ranges_of.Given as goal

abbrev pub invariant-loop-part : goal.invariant-loop-part
invariant-loop-part l = record {
  apart : AreApart l.left;
  same : (key : List ℕ) → (in_some key l.left && list_all (λ b. b) (map (says_of l.front l.column.ty l.place key) (drop l.part-index l.part-items))) ≡ (in_some key (whole l.front) && list_all (λ b. b) (map (says_of l.front l.column.ty l.place key) l.part-items));
}

abbrev pub invariant-loop-choice : goal.invariant-loop-choice
invariant-loop-choice l = (key : List ℕ) → (in_some key l.some || list_any (λ b. b) (map (says_of l.front l.column.ty l.place key) (drop l.choice-index l.choice-items))) ≡ list_any (λ b. b) (map (says_of l.front l.column.ty l.place key) l.choice-items)
