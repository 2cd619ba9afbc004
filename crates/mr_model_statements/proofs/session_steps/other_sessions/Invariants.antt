use Rattle.std.proofs.Common.{◌≡◌, take, filter, not}
use Rattle.mr_spec.specs.World.{is_session}
use Rattle.mr_model_statements.proofs.session_steps.other_sessions.Given as goal

abbrev pub invariant-loop-session : goal.invariant-loop-session
invariant-loop-session l = l.all ≡ filter (λ s. not (is_session l.name s)) (take l.session-index l.sessions)
