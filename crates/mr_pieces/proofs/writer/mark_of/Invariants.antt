use Rattle.std.proofs.Common.{◌≡◌, drop}
use Rattle.mr_pieces.specs.Pieces.{mark}
use Rattle.mr_pieces.proofs.writer.mark_of.Given as goal

abbrev pub invariant-loop-b : goal.invariant-loop-b
invariant-loop-b l = mark (drop l.b-index l.rest) ≡ mark l.rest
