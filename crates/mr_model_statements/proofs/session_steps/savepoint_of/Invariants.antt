use Rattle.std.proofs.Common.{◌≡◌, drop, find}
use Rattle.mr_spec.specs.SessionSteps.{is_savepoint}
use Rattle.mr_model_statements.proofs.session_steps.savepoint_of.Given as goal

abbrev pub invariant-loop-savepoint : goal.invariant-loop-savepoint
invariant-loop-savepoint l = find (is_savepoint l.name) (drop l.savepoint-index l.txn.savepoints) ≡ find (is_savepoint l.name) l.txn.savepoints
