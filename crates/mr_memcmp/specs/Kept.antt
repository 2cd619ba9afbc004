-- What a key keeps, where it lies.
use Rattle.std.specs.Prelude.{◌≡◌, ℕ, ◌≤◌, ◌<◌, ◌^◌, List, length, Result, Ok, Err}
use Rattle.std.specs.Borrow.{Bor}
use Rattle.mr_pieces.specs.declared.collation.Collation.{Collation}
use Rattle.mr_pieces.specs.Pieces.{text_from}
use Rattle.mr_pieces.specs.Reading.{bytes_in, text_in, IsShortened}
use Rattle.mr_pieces.specs.Lying.{HoldsBytes}
use Rattle.mr_types.specs.declared.kind.Kind.{Kind}
use Rattle.mr_types.specs.declared.kind.Kind.TheVariants.{VarChar, VarBinary}
use Rattle.mr_types.specs.declared.value.Value.{Value}
use Rattle.mr_types.specs.declared.value.Value.TheVariants.{Null, Number, Text, Bytes}
use Rattle.mr_types.specs.declared.field.FieldRef.{FieldRef}
use Rattle.mr_types.specs.FieldValues.{field_value}
use Rattle.mr_memcmp.specs.declared.kept.Kept.{Kept}
use Rattle.mr_memcmp.specs.declared.kept.Kept.TheVariants as kept
use Rattle.mr_memcmp.specs.Reading.{ReadNumber, ReadValue, ReadColumn}

abbrev pub pieces_value : Kind → List ℕ → Value
pieces_value (VarChar n collation) pieces = Text (text_in collation pieces)
pieces_value _ pieces = Bytes (bytes_in pieces)

abbrev pub kept_value : Kind → Kept → Value
kept_value kind kept.Null = Null
kept_value kind (kept.Number z) = Number z
kept_value kind (kept.Pieces pieces) = pieces_value kind pieces.now

-- the pieces of a text that was shortened and folded
pub record KeepsText (collation : Collation) (pieces : List ℕ) : Type 0 where
  pub spelled : pieces ≡ text_from 8 (text_in collation pieces)
  pub shortened : IsShortened collation (text_in collation pieces)

pub record KeepsBytes (pieces : List ℕ) : Type 0 where
  pub spelled : HoldsBytes pieces
  pub not_long : length (bytes_in pieces) < 2 ^ 16

abbrev pub KeepsPieces : Kind → List ℕ → Type 0
KeepsPieces (VarChar n collation) pieces = KeepsText collation pieces
KeepsPieces (VarBinary n) pieces = KeepsBytes pieces
KeepsPieces _ pieces = ⊥

-- whole pieces of the kind
abbrev pub IsKept : Kind → Kept → Type 0
IsKept kind kept.Null = Unit {0}
IsKept kind (kept.Number z) = Unit {0}
IsKept kind (kept.Pieces pieces) = KeepsPieces kind pieces.now

-- ---- what functions answer, against the reading

abbrev pub TakesNumber : Result (ℕ × Bor (List ℕ)) ℕ → ReadNumber → Type 0
TakesNumber (Ok x) read = read ≡ Ok (x.0, x.1.now)
TakesNumber (Err left) read = read ≡ Err left

-- what is kept in front of a key, and what stands behind it
abbrev pub TakesKept : Kind → Result (Kept × Bor (List ℕ)) ℕ → ReadValue → Type 0
TakesKept kind (Ok x) read = (read ≡ Ok (kept_value kind x.0, x.1.now)) × IsKept kind x.0
TakesKept kind (Err left) read = read ≡ Err left

-- a whole value, and what is left of the unpack data
abbrev pub TakesFull : Kind → Result (FieldRef × Bor (List ℕ)) ℕ → ReadValue → Type 0
TakesFull kind (Ok x) read = read ≡ Ok (field_value kind x.0, x.1.now)
TakesFull kind (Err left) read = read ≡ Err left

-- an offence is at most `start` bytes before the end, and no more is left than there was
abbrev pub LeavesBy : {A : Type 0} → ℕ → List ℕ → Result (A × Bor (List ℕ)) ℕ → Type 0
LeavesBy start key (Ok x) = length x.1.now ≤ length key
LeavesBy start key (Err left) = left ≤ start

abbrev pub LeavesWithin : {A : Type 0} → List ℕ → Result (A × Bor (List ℕ)) ℕ → Type 0
LeavesWithin key result = LeavesBy (length key) key result

-- a whole value, and what is left of the key and of the unpack data
abbrev pub TakesColumn : Kind → Result (FieldRef × Bor (List ℕ) × Bor (List ℕ)) ℕ → ReadColumn → Type 0
TakesColumn kind (Ok x) read = read ≡ Ok (field_value kind x.0, x.1.now, x.2.now)
TakesColumn kind (Err left) read = read ≡ Err left

abbrev pub LeavesKey : List ℕ → Result (FieldRef × Bor (List ℕ) × Bor (List ℕ)) ℕ → Type 0
LeavesKey key (Ok x) = length x.1.now ≤ length key
LeavesKey key (Err left) = left ≤ length key
