-- Reading pieces back. An error is the number of bytes left from the first byte of the piece that breaks a rule.
use Rattle.std.specs.Prelude.{◌≡◌, ℕ, ◌+◌, ◌≤◌, List, [], ◌∷◌, ◌++◌, length, take, drop, Bool, true, false, nat_lt, nat_le, ◌==◌, ◌&&◌, ◌||◌, not, if◌then◌else◌, Option, Some, None, Result, Ok, Err}
use Rattle.std.specs.List.{list_all}
use Rattle.std.specs.Borrow.{Bor}
use Rattle.mr_pieces.specs.declared.collation.Collation.{Collation}
use Rattle.mr_pieces.specs.declared.collation.Collation.TheVariants.{Bin, Ci}
use Rattle.mr_pieces.specs.Pieces.{bytes_from, text_from, mark, trimmed}

-- what was read and the bytes after it, or how many bytes are left at the first offence
abbrev pub Read : Type 0
Read = Result (List ℕ × List ℕ) ℕ

abbrev pub with_front : List ℕ → Read → Read
with_front piece (Ok x) = Ok (piece ++ x.0, x.1)
with_front piece (Err left) = Err left

abbrev pub rest_of : Read → Result (List ℕ) ℕ
rest_of (Ok x) = Ok x.1
rest_of (Err left) = Err left

-- a function cut the front of a key off as reading does
abbrev pub Splits : List ℕ → Result (Bor (List ℕ) × Bor (List ℕ)) ℕ → Read → Type 0
Splits key (Ok parts) read = (rest_of read ≡ Ok parts.1.now) × (key ≡ parts.0.now ++ parts.1.now)
Splits key (Err left) read = (rest_of read ≡ Err left) × (left ≤ length key)

-- what the first piece says, where reading after it gives `more`
abbrev pub Heads : List ℕ → Read → Result Bool ℕ → Read → Type 0
Heads rest more (Ok true) read = (9 ≤ length rest) × (rest_of read ≡ Ok (drop 9 rest))
Heads rest more (Ok false) read = (9 ≤ length rest) × (rest_of read ≡ rest_of more)
Heads rest more (Err left) read = (rest_of read ≡ Err left) × (left ≤ length rest)

-- ---- bytes in pieces

-- a last piece of this count, padded with zeros; an empty one is the only one
abbrev pub is_last : Bool → List ℕ → ℕ → Bool
is_last first piece count = nat_le count 8 && ((first || nat_lt 0 count) && list_all (λ b. b == 0) (drop count piece))

abbrev pub bytes_piece : Bool → List ℕ → ℕ → List ℕ → Read → Read
bytes_piece first piece count rest more =
    if count == 9 then with_front piece more
    else if is_last first piece count then Ok (take count piece, rest)
    else Err (9 + length rest)

unfoldable pub bytes_read : Bool → List ℕ → Read
bytes_read first (a ∷ b ∷ c ∷ d ∷ e ∷ f ∷ g ∷ h ∷ n ∷ rest) = bytes_piece first (a ∷ b ∷ c ∷ d ∷ e ∷ f ∷ g ∷ h ∷ []) n rest (bytes_read false rest)
bytes_read first rest = Err (length rest)

-- ---- texts in pieces

abbrev pub is_text_byte : Collation → ℕ → Bool
is_text_byte Bin b = nat_lt b 128
is_text_byte Ci b = nat_lt b 128 && not (nat_le 97 b && nat_le b 122)

-- a piece that is in order by itself
abbrev pub is_piece : Collation → List ℕ → ℕ → Bool
is_piece collation piece m = nat_lt 0 m && (nat_lt m 4 && list_all (is_text_byte collation) piece)

abbrev pub is_blank : List ℕ → Bool
is_blank piece = list_all (λ b. b == 32) piece

-- the mark that stands before a piece of this mark
abbrev pub mark_before : List ℕ → ℕ → ℕ
mark_before piece m = if is_blank piece then m else mark piece

-- the mark that the next piece wants, where it is whole and in order by itself
unfoldable pub wanted_mark : Collation → List ℕ → Option ℕ
wanted_mark collation (a ∷ b ∷ c ∷ d ∷ e ∷ f ∷ g ∷ h ∷ m ∷ rest) = if is_piece collation (a ∷ b ∷ c ∷ d ∷ e ∷ f ∷ g ∷ h ∷ []) m then Some (mark_before (a ∷ b ∷ c ∷ d ∷ e ∷ f ∷ g ∷ h ∷ []) m) else None
wanted_mark collation rest = None

-- a mark is judged against the next piece, if that one is in order by itself
abbrev pub judged : List ℕ → ℕ → ℕ → Option ℕ → Read → Read
judged piece m left None more = more
judged piece m left (Some wanted) more = if m == wanted then with_front piece more else Err left

abbrev pub text_piece : Collation → List ℕ → ℕ → List ℕ → Read → Read
text_piece collation piece m rest more =
    if is_piece collation piece m then (if m == 2 then Ok (trimmed piece, rest) else judged piece m (9 + length rest) (wanted_mark collation rest) more)
    else Err (9 + length rest)

unfoldable pub text_read : Collation → List ℕ → Read
text_read collation (a ∷ b ∷ c ∷ d ∷ e ∷ f ∷ g ∷ h ∷ m ∷ rest) = text_piece collation (a ∷ b ∷ c ∷ d ∷ e ∷ f ∷ g ∷ h ∷ []) m rest (text_read collation rest)
text_read collation rest = Err (length rest)

-- ---- what whole pieces hold

abbrev pub read_value : Read → List ℕ
read_value (Ok x) = x.0
read_value (Err left) = []

abbrev pub bytes_in : List ℕ → List ℕ
bytes_in pieces = read_value (bytes_read true pieces)

-- shortened and folded, as pieces keep it
abbrev pub text_in : Collation → List ℕ → List ℕ
text_in collation pieces = read_value (text_read collation pieces)

-- a text as pieces keep it
pub record IsShortened (collation : Collation) (text : List ℕ) : Type 0 where
  pub without_spaces : trimmed text ≡ text
  pub in_order : list_all (is_text_byte collation) text ≡ true

-- the front of a key was cut off as reading does, and is the pieces of what was read
abbrev pub TakesBytes : List ℕ → Result (Bor (List ℕ) × Bor (List ℕ)) ℕ → Type 0
TakesBytes key (Ok parts) = (bytes_read true key ≡ Ok (bytes_in parts.0.now, parts.1.now)) × (key ≡ parts.0.now ++ parts.1.now) × (parts.0.now ≡ bytes_from 8 (bytes_in parts.0.now))
TakesBytes key (Err left) = (bytes_read true key ≡ Err left) × (left ≤ length key)

abbrev pub TakesText : Collation → List ℕ → Result (Bor (List ℕ) × Bor (List ℕ)) ℕ → Type 0
TakesText collation key (Ok parts) = (text_read collation key ≡ Ok (text_in collation parts.0.now, parts.1.now)) × (key ≡ parts.0.now ++ parts.1.now) × (parts.0.now ≡ text_from 8 (text_in collation parts.0.now)) × IsShortened collation (text_in collation parts.0.now)
TakesText collation key (Err left) = (text_read collation key ≡ Err left) × (left ≤ length key)
