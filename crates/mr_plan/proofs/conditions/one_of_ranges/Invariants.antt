use Rattle.std.proofs.Common.{◌≡◌, ℕ, List, drop}
use Rattle.std.specs.Prelude.{◌||◌}
use Rattle.std.specs.List.{list_any}
use Rattle.mr_types.specs.declared.expr.Cmp.TheVariants.{Eq}
use Rattle.mr_ranges.specs.Ranges.{in_some}
use Rattle.mr_plan.specs.Tests.{test_ranges}
use Rattle.mr_plan.proofs.conditions.one_of_ranges.Given as goal

abbrev pub invariant-loop-value : goal.invariant-loop-value
invariant-loop-value l = (key : List ℕ) → (in_some key l.some || list_any (λ v. in_some key (test_ranges l.front l.column.ty Eq v)) (drop l.value-index l.values)) ≡ list_any (λ v. in_some key (test_ranges l.front l.column.ty Eq v)) l.values
