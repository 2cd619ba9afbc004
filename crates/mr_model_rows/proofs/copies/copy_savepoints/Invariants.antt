use Rattle.std.proofs.Common.{◌≡◌, take}
use Rattle.mr_model_rows.proofs.copies.copy_savepoints.Given as goal

abbrev pub invariant-loop-savepoint : goal.invariant-loop-savepoint
invariant-loop-savepoint l = l.all ≡ take l.savepoint-index l.savepoints
