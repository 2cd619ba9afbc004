use Rattle.std.proofs.Common.{◌≡◌, ◌≤◌, ◌/◌, ◌^◌, length, drop}
use Rattle.mr_pieces.specs.Unpack.{bits_value, lower_by}
use Rattle.mr_pieces.proofs.unpack_reader.are_bits.Given as goal

abbrev pub invariant-loop-at : goal.invariant-loop-at
invariant-loop-at l = record { within : l.at ≤ length l.piece; so_far : l.again ≡ bits_value (lower_by (l.bits / 2 ^ l.at) (drop l.at l.piece)) }

abbrev pub decreases-loop-at : goal.decreases-loop-at
decreases-loop-at l = l.at
