use Rattle.std.proofs.Common.{◌≡◌, ◌++◌, drop}
use Rattle.mr_spec.specs.SessionSteps.{savepoints_before}
use Rattle.mr_model_statements.proofs.session_steps.savepoints_before.Given as goal

abbrev pub invariant-loop-savepoint : goal.invariant-loop-savepoint
invariant-loop-savepoint l = l.all ++ savepoints_before l.name (drop l.savepoint-index l.savepoints) ≡ savepoints_before l.name l.savepoints
