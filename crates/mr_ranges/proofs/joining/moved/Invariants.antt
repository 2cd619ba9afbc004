use Rattle.std.proofs.Common.{◌≡◌, ℕ, List, length}
use Rattle.std.specs.Prelude.{◌||◌}
use Rattle.mr_ranges.specs.Ranges.{in_some}
use Rattle.mr_ranges.proofs.joining.moved.Given as goal

abbrev pub invariant-moving : goal.invariant-moving
invariant-moving l = (key : List ℕ) → (in_some key l.out.items || in_some key l.left) ≡ in_some key l.fn.ranges

abbrev pub decreases-moving : goal.decreases-moving
decreases-moving l = length l.left
