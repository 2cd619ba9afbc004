use Rattle.std.proofs.Common.{◌≡◌, take, filter, not}
use Rattle.mr_spec.specs.SessionSteps.{is_savepoint}
use Rattle.mr_model_statements.proofs.session_steps.other_savepoints.Given as goal

abbrev pub invariant-loop-savepoint : goal.invariant-loop-savepoint
invariant-loop-savepoint l = l.all ≡ filter (λ s. not (is_savepoint l.name s)) (take l.savepoint-index l.savepoints)
