use Rattle.std.proofs.Common.{◌≡◌, ◌++◌, length}
use Rattle.mr_pieces.specs.Pieces.{bytes_from}
use Rattle.mr_pieces.proofs.writer.push_bytes.Given as goal

abbrev pub invariant-loop-rest : goal.invariant-loop-rest
invariant-loop-rest l = l.out.items ++ bytes_from 8 l.rest ≡ l.fn.out.items ++ bytes_from 8 l.bytes

abbrev pub decreases-loop-rest : goal.decreases-loop-rest
decreases-loop-rest l = length l.rest
