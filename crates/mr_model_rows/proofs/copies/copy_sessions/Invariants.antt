use Rattle.std.proofs.Common.{◌≡◌, take}
use Rattle.mr_model_rows.proofs.copies.copy_sessions.Given as goal

abbrev pub invariant-loop-session : goal.invariant-loop-session
invariant-loop-session l = l.all ≡ take l.session-index l.sessions
