use Rattle.std.proofs.Common.{◌≡◌, ◌++◌, length}
use Rattle.mr_pieces.specs.Unpack.{bits_of}
use Rattle.mr_pieces.proofs.unpack_form.push_bits.Given as goal

abbrev pub invariant-loop-rest : goal.invariant-loop-rest
invariant-loop-rest l = l.out.items ++ bits_of l.rest ≡ l.fn.out.items ++ bits_of l.text

abbrev pub decreases-loop-rest : goal.decreases-loop-rest
decreases-loop-rest l = length l.rest
