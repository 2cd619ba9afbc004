use Rattle.std.proofs.Common.{◌≡◌, ◌++◌, drop}
use Rattle.mr_spec.specs.World.{held_changes}
use Rattle.mr_model_engine.proofs.seen.held_changes.Given as goal

abbrev pub invariant-loop-session : goal.invariant-loop-session
invariant-loop-session l = l.all ++ held_changes (drop l.session-index l.sessions) ≡ held_changes l.sessions
