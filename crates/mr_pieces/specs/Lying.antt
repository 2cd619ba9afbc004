-- A text or bytes that lie in a key.
use Rattle.std.specs.Prelude.{◌≡◌, ℕ, ◌<◌, ◌^◌, List, length}
use Rattle.mr_pieces.specs.declared.collation.Collation.{Collation}
use Rattle.mr_pieces.specs.Pieces.{bytes_pieces, text_pieces}
use Rattle.mr_pieces.specs.Reading.{bytes_in, text_in}
use Rattle.mr_pieces.specs.Unpack.{unpack_form, original}

-- the text whose pieces and whose unpack form these are
abbrev pub text_of : Collation → List ℕ → List ℕ → List ℕ
text_of collation pieces unpack = original collation (text_in collation pieces) unpack

-- the whole pieces of some bytes
abbrev pub HoldsBytes : List ℕ → Type 0
HoldsBytes pieces = pieces ≡ bytes_pieces (bytes_in pieces)

-- the whole pieces of a text, and the unpack form of the same text
pub record HoldsText (collation : Collation) (pieces unpack : List ℕ) : Type 0 where
  pub its_pieces : pieces ≡ text_pieces collation (text_of collation pieces unpack)
  pub its_unpack : unpack ≡ unpack_form collation (text_of collation pieces unpack)
  pub not_long : length (text_of collation pieces unpack) < 2 ^ 16
