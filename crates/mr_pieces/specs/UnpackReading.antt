-- Reading an unpack form beside the text that its pieces keep. An error is the number of bytes left from the first
-- byte of the part that breaks its rule: the count of spaces, or the bits.
use Rattle.std.specs.Prelude.{◌≡◌, ℕ, ◌+◌, ◌/◌, ◌≤◌, List, ◌++◌, length, take, drop, replicate, Bool, nat_le, nat_eq, ◌&&◌, if◌then◌else◌, Result, Ok, Err}
use Rattle.std.specs.Cmp.Lexicographic.{pointwise}
use Rattle.std.specs.Borrow.{Bor}
use Rattle.std.specs.Int.{w16, from_be_bytes}
use Rattle.mr_pieces.specs.declared.collation.Collation.{Collation}
use Rattle.mr_pieces.specs.declared.collation.Collation.TheVariants.{Bin, Ci}
use Rattle.mr_pieces.specs.Reading.{Read}
use Rattle.mr_pieces.specs.Unpack.{bits_of, restored}
use Rattle.mr_pieces.specs.Lying.{text_of, HoldsText}

-- as many bytes as hold a bit per byte of the text
abbrev pub bits_room : List ℕ → ℕ
bits_room kept = (length kept + 7) / 8

-- these are the bits of the text that they restore: each stands at an upper-case letter
abbrev pub are_bits_of : List ℕ → List ℕ → Bool
are_bits_of kept bits = pointwise nat_eq (bits_of (restored bits kept)) bits

abbrev pub case_read : Collation → List ℕ → ℕ → List ℕ → Read
case_read Bin kept spaces rest = Ok (kept ++ replicate spaces 32, rest)
case_read Ci kept spaces rest =
    if nat_le (bits_room kept) (length rest) && are_bits_of kept (take (bits_room kept) rest) then Ok (restored (take (bits_room kept) rest) kept ++ replicate spaces 32, drop (bits_room kept) rest)
    else Err (length rest)

abbrev pub spaces_in : List ℕ → ℕ
spaces_in unpack = from_be_bytes w16 (take 2 unpack)

-- the text of at most `width` bytes whose pieces keep `kept`, and what stands behind its unpack form
abbrev pub unpack_read : Collation → ℕ → List ℕ → List ℕ → Read
unpack_read collation width kept unpack =
    if nat_le 2 (length unpack) && nat_le (spaces_in unpack + length kept) width then case_read collation kept (spaces_in unpack) (drop 2 unpack)
    else Err (length unpack)

-- the form was cut off as reading does, and is that of the text whose pieces these are
abbrev pub TakesUnpack : Collation → List ℕ → List ℕ → Result (Bor (List ℕ) × Bor (List ℕ)) ℕ → Read → Type 0
TakesUnpack collation pieces unpack (Ok parts) read = (read ≡ Ok (text_of collation pieces parts.0.now, parts.1.now)) × (unpack ≡ parts.0.now ++ parts.1.now) × HoldsText collation pieces parts.0.now
TakesUnpack collation pieces unpack (Err left) read = (read ≡ Err left) × (left ≤ length unpack)
