-- Fields that lie in keys and rows.
use Rattle.std.specs.Prelude.{◌≡◌, ℕ, ◌<◌, ◌^◌, List, [], length}
use Rattle.mr_pieces.specs.Pieces.{bytes_pieces, text_pieces}
use Rattle.mr_pieces.specs.Reading.{bytes_in}
use Rattle.mr_pieces.specs.Unpack.{unpack_form}
use Rattle.mr_pieces.specs.Lying.{text_of}
use Rattle.mr_types.specs.declared.kind.Kind.{Kind}
use Rattle.mr_types.specs.declared.kind.Kind.TheVariants.{VarChar}

-- ---- pieces with their unpack form

-- the text or bytes that lie in these pieces
abbrev pub lying : Kind → List ℕ → List ℕ → List ℕ
lying (VarChar n collation) pieces unpack = text_of collation pieces unpack
lying _ pieces unpack = bytes_in pieces

abbrev pub pieces_of : Kind → List ℕ → List ℕ
pieces_of (VarChar n collation) text = text_pieces collation text
pieces_of _ bytes = bytes_pieces bytes

-- bytes have none
abbrev pub unpack_of : Kind → List ℕ → List ℕ
unpack_of (VarChar n collation) text = unpack_form collation text
unpack_of _ bytes = []

-- whole pieces of one text or of one list of bytes, and its unpack form
pub record Lies (kind : Kind) (pieces unpack : List ℕ) : Type 0 where
  pub its_pieces : pieces ≡ pieces_of kind (lying kind pieces unpack)
  pub its_unpack : unpack ≡ unpack_of kind (lying kind pieces unpack)
  pub not_long : length (lying kind pieces unpack) < 2 ^ 16
