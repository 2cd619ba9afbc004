use Rattle.std.proofs.Common.{◌≡◌, drop, find}
use Rattle.mr_spec.specs.World.{is_session}
use Rattle.mr_model_statements.proofs.session_steps.session_of.Given as goal

abbrev pub invariant-loop-session : goal.invariant-loop-session
invariant-loop-session l = find (is_session l.name) (drop l.session-index l.sessions) ≡ find (is_session l.name) l.sessions
