use Rattle.std.proofs.Common.{◌≡◌, ◌-◌, ◌+◌, drop, length, ◌≤◌}
use Rattle.mr_lex.specs.Fronts.{pairs_end}
use Rattle.mr_lex.proofs.quoted.pairs_len.Given as goal

abbrev pub invariant-loop-at : goal.invariant-loop-at
invariant-loop-at l = record { within : l.at ≤ length l.bytes + 1; same : pairs_end l.at (drop l.at l.bytes) ≡ pairs_end 1 (drop 1 l.bytes) }

abbrev pub decreases-loop-at : goal.decreases-loop-at
decreases-loop-at l = length l.bytes - l.at
