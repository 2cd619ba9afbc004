use Rattle.std.proofs.Common.{◌≡◌, ◌-◌, ◌+◌, drop, length, ◌≤◌}
use Rattle.mr_lex.specs.Fronts.{quoted_end}
use Rattle.mr_lex.proofs.quoted.quoted_len.Given as goal

abbrev pub invariant-loop-at : goal.invariant-loop-at
invariant-loop-at l = record { past : 1 ≤ l.at; within : l.at ≤ length l.bytes + 1; same : quoted_end l.quote l.escapes l.least l.most l.at (drop l.at l.bytes) ≡ quoted_end l.quote l.escapes l.least l.most 1 (drop 1 l.bytes) }

abbrev pub decreases-loop-at : goal.decreases-loop-at
decreases-loop-at l = length l.bytes - l.at
