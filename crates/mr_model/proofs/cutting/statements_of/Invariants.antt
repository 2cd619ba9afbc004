use Rattle.std.proofs.Common.{take}
use Rattle.mr_lex.specs.Pieces.{start, read_piece}
use Rattle.mr_model.specs.Cuts.{Holds}
use Rattle.mr_model.proofs.cutting.statements_of.Given as goal

abbrev pub invariant-loop-byte : goal.invariant-loop-byte
invariant-loop-byte l = Holds l.cutter (read_piece start (take l.byte-index l.script))
