use Rattle.std.proofs.Common.{◌≡◌, take}
use Rattle.mr_unpack.proofs.bytes_of.Given as goal

abbrev pub invariant-loop-at : goal.invariant-loop-at
invariant-loop-at l = l.out.items ≡ take l.at l.pieces
