use Rattle.std.proofs.Common.{◌≡◌, take}
use Rattle.mr_types.proofs.holding.pieces_copy.Given as goal

abbrev pub invariant-loop-at : goal.invariant-loop-at
invariant-loop-at l = l.bytes.items ≡ take l.at l.pieces
