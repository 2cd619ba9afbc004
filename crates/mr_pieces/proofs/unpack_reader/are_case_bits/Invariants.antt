use Rattle.std.proofs.Common.{◌≡◌, ◌*◌, ℕ, List, length, drop}
use Rattle.mr_pieces.specs.Pieces.{text_from}
use Rattle.mr_pieces.specs.UnpackReading.{are_bits_of}
use Rattle.mr_pieces.proofs.unpack_reader.are_case_bits.Given as goal

abbrev pub invariant-loop-number : goal.invariant-loop-number
invariant-loop-number l = (text : List ℕ) → l.pieces ≡ text_from 8 text → length text ≡ l.count → are_bits_of (drop (8 * l.number) text) (drop l.number l.bits) ≡ are_bits_of text l.bits
