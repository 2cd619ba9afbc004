use Rattle.std.proofs.Common.{◌≡◌, ◌≤◌, ◌++◌, length, min, reverse}
use Rattle.mr_model_rows.proofs.copies.take_off.Given as goal

abbrev pub invariant-loop-items : goal.invariant-loop-items
invariant-loop-items g l = record { whole : l.items ++ reverse l.off ≡ l.initial.items; enough : min l.at (length l.initial.items) ≤ length l.items }

abbrev pub decreases-loop-items : goal.decreases-loop-items
decreases-loop-items g l = length l.items
