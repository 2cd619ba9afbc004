use Rattle.std.proofs.Common.{◌≡◌, ◌-◌, ◌+◌, drop, length, ◌≤◌}
use Rattle.mr_lex.specs.Blank.{block_length}
use Rattle.std.specs.Option.{option_map}
use Rattle.mr_lex.proofs.blank.block_len.Given as goal

abbrev pub invariant-loop-at : goal.invariant-loop-at
invariant-loop-at l = record { within : l.at ≤ length l.bytes; same : option_map (λ n. l.at + n) (block_length (drop l.at l.bytes)) ≡ block_length l.bytes }

abbrev pub decreases-loop-at : goal.decreases-loop-at
decreases-loop-at l = length l.bytes - l.at
