-- Reading a column of a key back. An error is the number of bytes left from the first byte of the field that breaks its
-- rule: the byte for NULL, a number, a piece with its mark or count; or the column's first byte where the text or the
-- bytes are longer than the column takes.
use Rattle.std.specs.Prelude.{ℕ, zero, suc, ◌-◌, ◌^◌, ℤ, pos, negsuc, List, [], ◌∷◌, length, take, drop, Bool, true, false, nat_lt, nat_le, if◌then◌else◌, Result, Ok, Err}
use Rattle.std.specs.Int.{Width, w32, w64, byte_len, from_be_bytes}
use Rattle.mr_pieces.specs.Reading.{Read, bytes_read, text_read}
use Rattle.mr_pieces.specs.UnpackReading.{unpack_read}
use Rattle.mr_types.specs.declared.kind.Kind.{Kind}
use Rattle.mr_types.specs.declared.kind.Kind.TheVariants.{Int, IntUnsigned, BigInt, BigIntUnsigned, VarChar, VarBinary}
use Rattle.mr_types.specs.declared.kind.ColumnType.{ColumnType}
use Rattle.mr_types.specs.declared.value.Value.{Value}
use Rattle.mr_types.specs.declared.value.Value.TheVariants.{Null, Number, Text, Bytes}

-- ---- numbers

abbrev pub ReadNumber : Type 0
ReadNumber = Result (ℕ × List ℕ) ℕ

-- the highest byte first
abbrev pub number_read : Width → List ℕ → ReadNumber
number_read w key = if nat_lt (length key) (byte_len w) then Err (length key) else Ok (from_be_bytes w (take (byte_len w) key), drop (byte_len w) key)

-- what was counted from the least number, -2^half
abbrev pub unflipped : ℕ → ℕ → ℤ
unflipped half n = if nat_lt n (2 ^ half) then negsuc (2 ^ half - suc n) else pos (n - 2 ^ half)

-- ---- what a key keeps of a value: all, but of a text only the shortened and folded one

-- a value and the bytes after it
abbrev pub ReadValue : Type 0
ReadValue = Result (Value × List ℕ) ℕ

abbrev pub as_number : (ℕ → ℤ) → ReadNumber → ReadValue
as_number signed (Ok x) = Ok (Number (signed x.0), x.1)
as_number signed (Err left) = Err left

-- of at most n bytes; the column begins `start` bytes before the end
abbrev pub of_length : ℕ → ℕ → (List ℕ → Value) → Read → ReadValue
of_length start n value (Ok x) = if nat_le (length x.0) n then Ok (value x.0, x.1) else Err start
of_length start n value (Err left) = Err left

unfoldable pub kind_read : ℕ → Kind → List ℕ → ReadValue
kind_read start Int key = as_number (unflipped 31) (number_read w32 key)
kind_read start IntUnsigned key = as_number pos (number_read w32 key)
kind_read start BigInt key = as_number (unflipped 63) (number_read w64 key)
kind_read start BigIntUnsigned key = as_number pos (number_read w64 key)
kind_read start (VarChar n collation) key = of_length start n Text (text_read collation key)
kind_read start (VarBinary n) key = of_length start n Bytes (bytes_read true key)

abbrev pub flagged_read : Bool → Kind → List ℕ → ReadValue
flagged_read false kind key = kind_read (length key) kind key
flagged_read true kind [] = Err 0
flagged_read true kind (zero ∷ key) = Ok (Null, key)
flagged_read true kind (suc zero ∷ key) = kind_read (suc (length key)) kind key
flagged_read true kind (suc (suc flag) ∷ key) = Err (suc (length key))

unfoldable pub kept_read : ColumnType → List ℕ → ReadValue
kept_read column key = flagged_read column.nullable column.kind key

-- ---- the whole value, from the unpack data beside the key; here an error counts the bytes left of the unpack data

abbrev pub as_text : Read → ReadValue
as_text (Ok x) = Ok (Text x.0, x.1)
as_text (Err left) = Err left

abbrev pub text_full : Kind → List ℕ → List ℕ → ReadValue
text_full (VarChar n collation) kept unpack = as_text (unpack_read collation n kept unpack)
text_full _ kept unpack = Ok (Text kept, unpack)

abbrev pub full_read : Kind → Value → List ℕ → ReadValue
full_read kind Null unpack = Ok (Null, unpack)
full_read kind (Number z) unpack = Ok (Number z, unpack)
full_read kind (Text kept) unpack = text_full kind kept unpack
full_read kind (Bytes bytes) unpack = Ok (Bytes bytes, unpack)

-- ---- a column by both: its value, and what is left of the key and of the unpack data

abbrev pub ReadColumn : Type 0
ReadColumn = Result (Value × List ℕ × List ℕ) ℕ

-- an offence in the unpack data is one at the column's first byte
abbrev pub with_rest : ℕ → List ℕ → ReadValue → ReadColumn
with_rest start key (Ok x) = Ok (x.0, key, x.1)
with_rest start key (Err left) = Err start

abbrev pub completed : Kind → ℕ → List ℕ → ReadValue → ReadColumn
completed kind start unpack (Ok x) = with_rest start x.1 (full_read kind x.0 unpack)
completed kind start unpack (Err left) = Err left

unfoldable pub field_read : ColumnType → List ℕ → List ℕ → ReadColumn
field_read column key unpack = completed column.kind (length key) unpack (kept_read column key)
