use Rattle.std.proofs.Common.{◌≡◌, ◌-◌, ◌+◌, drop, length, ◌≤◌}
use Rattle.mr_lex.specs.Blank.{line_length}
use Rattle.mr_lex.proofs.blank.line_len.Given as goal

abbrev pub invariant-loop-at : goal.invariant-loop-at
invariant-loop-at l = record { within : l.at ≤ length l.bytes; same : l.at + line_length (drop l.at l.bytes) ≡ line_length l.bytes }

abbrev pub decreases-loop-at : goal.decreases-loop-at
decreases-loop-at l = length l.bytes - l.at
