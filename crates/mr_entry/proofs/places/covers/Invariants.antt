use Rattle.std.proofs.Common.{◌≡◌, ◌<◌, ℕ, true}
use Rattle.mr_entry.specs.Entry.{is_reached, IsNeeded}
use Rattle.mr_entry.proofs.places.covers.Given as goal

abbrev pub invariant-loop-place : goal.invariant-loop-place
invariant-loop-place l = (p : ℕ) → p < l.place → IsNeeded l.needed p → is_reached l.def l.index p ≡ true
