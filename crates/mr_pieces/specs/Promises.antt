-- What pieces are for, as contracts say it.
use Rattle.std.specs.Prelude.{◌≡◌, ℕ, ◌<◌, ◌≤◌, ◌-◌, ◌^◌, List, ◌++◌, length, replicate, true, Ok}
use Rattle.std.specs.Ordering.{ordering_then}
use Rattle.std.specs.Cmp.{IsTotalOrder}
use Rattle.mr_pieces.specs.declared.collation.Collation.{Collation}
use Rattle.mr_pieces.specs.Order.{filled_cmp, text_cmp, bytes_cmp, IsAscii}
use Rattle.mr_pieces.specs.Pieces.{bytes_pieces, text_pieces, shortened}
use Rattle.mr_pieces.specs.Reading.{bytes_read, text_read, bytes_in}
use Rattle.mr_pieces.specs.Lying.{text_of, HoldsBytes, HoldsText}
use Rattle.mr_pieces.specs.Unpack.{unpack_form, original}

-- What stands in front decides first: the order of pieces is that of their values, whatever follows.
pub record PiecesDecideFirst : Type 0 where
  pub of_bytes : (x y a b : List ℕ) → bytes_cmp (bytes_pieces x ++ a) (bytes_pieces y ++ b) ≡ ordering_then (bytes_cmp x y) (bytes_cmp a b)
  pub of_texts : (collation : Collation) (x y a b : List ℕ) → bytes_cmp (text_pieces collation x ++ a) (text_pieces collation y ++ b) ≡ ordering_then (text_cmp collation x y) (bytes_cmp a b)

-- What was cut is read again, whatever follows.
pub record PiecesComeBack : Type 0 where
  pub of_bytes : (bytes rest : List ℕ) → bytes_read true (bytes_pieces bytes ++ rest) ≡ Ok (bytes, rest)
  pub of_texts : (collation : Collation) (text rest : List ℕ) → IsAscii text → text_read collation (text_pieces collation text ++ rest) ≡ Ok (shortened collation text, rest)
  pub whole_texts : (collation : Collation) (text : List ℕ) → length text < 2 ^ 16 → original collation (shortened collation text) (unpack_form collation text) ≡ text
  pub lying_texts : (collation : Collation) (text : List ℕ) → IsAscii text → length text < 2 ^ 16 → (text_of collation (text_pieces collation text) (unpack_form collation text) ≡ text) × HoldsText collation (text_pieces collation text) (unpack_form collation text)
  pub lying_bytes : (bytes : List ℕ) → (bytes_in (bytes_pieces bytes) ≡ bytes) × HoldsBytes (bytes_pieces bytes)

-- The order with a filler is the order of lists that are filled up to one length.
abbrev pub padded : ℕ → ℕ → List ℕ → List ℕ
padded filler size xs = xs ++ replicate (size - length xs) filler

pub record TextsInOrder : Type 0 where
  pub total : (collation : Collation) → IsTotalOrder (text_cmp collation)
  pub is_padded : (filler size : ℕ) (xs ys : List ℕ) → length xs ≤ size → length ys ≤ size → filled_cmp filler xs ys ≡ bytes_cmp (padded filler size xs) (padded filler size ys)
