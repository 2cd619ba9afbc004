use Rattle.std.proofs.Common.{◌≡◌, ◌≤◌, length, drop}
use Rattle.mr_pieces.specs.Unpack.{bits_value}
use Rattle.mr_pieces.proofs.unpack_form.bits_byte.Given as goal

abbrev pub invariant-loop-at : goal.invariant-loop-at
invariant-loop-at l = record { within : l.at ≤ length l.part; so_far : l.bits ≡ bits_value (drop l.at l.part) }

abbrev pub decreases-loop-at : goal.decreases-loop-at
decreases-loop-at l = l.at
