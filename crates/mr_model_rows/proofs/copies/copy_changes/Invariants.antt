use Rattle.std.proofs.Common.{◌≡◌, take}
use Rattle.mr_model_rows.proofs.copies.copy_changes.Given as goal

abbrev pub invariant-loop-change : goal.invariant-loop-change
invariant-loop-change l = l.all ≡ take l.change-index l.changes
