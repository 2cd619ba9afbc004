use Rattle.std.proofs.Common.{◌≡◌, ◌-◌, ◌+◌, drop, length, ◌≤◌}
use Rattle.mr_lex.specs.Quoted.{name_count}
use Rattle.mr_lex.proofs.quoted.name_len.Given as goal

abbrev pub invariant-loop-at : goal.invariant-loop-at
invariant-loop-at l = record { within : l.at ≤ length l.bytes; few : l.count ≤ l.at; same : l.count + name_count (drop l.at l.bytes) ≡ name_count l.bytes }

abbrev pub decreases-loop-at : goal.decreases-loop-at
decreases-loop-at l = length l.bytes - l.at
