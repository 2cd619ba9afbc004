-- The columns of a key, and the unpack data beside them.
use Rattle.std.specs.Prelude.{ℕ, List, [], ◌∷◌, ◌++◌, length, Bool, true, false, ◌==◌, if◌then◌else◌, Option, Some, None, Result, Ok, Err, slice_get}
use Rattle.std.specs.List.{list_any}
use Rattle.std.specs.Int.{w32, w64}
use Rattle.mr_types.specs.declared.definition.ColumnDef.{ColumnDef}
use Rattle.mr_types.specs.declared.value.Value.{Value}
use Rattle.mr_types.specs.declared.value.Value.TheVariants.{Null}
use Rattle.mr_types.specs.Refusals.{◌>>=◌}
use Rattle.mr_memcmp.specs.Reading.{ReadValue, ReadNumber, number_read, kept_read, full_read}

-- ---- where a column is

abbrev pub is_in : List ℕ → ℕ → Bool
is_in places at = list_any (λ place. place == at) places

-- values by their columns' places
abbrev pub Held : Type 0
Held = List (ℕ × Value)

-- the first value under this place, NULL where there is none
abbrev pub found : Held → ℕ → Value
found [] at = Null
found (x ∷ held) at = if x.0 == at then x.1 else found held at

-- ---- the key alone. An error is the number of bytes left of it from the first offence on

abbrev pub behind : ReadValue → Result (List ℕ) ℕ
behind (Ok x) = Ok x.1
behind (Err left) = Err left

-- a place past the last column has no bytes
abbrev pub part_kept : Option ColumnDef → List ℕ → Result (List ℕ) ℕ
part_kept None key = Ok key
part_kept (Some column) key = behind (kept_read column.ty key)

-- what stands behind the columns at these places
abbrev pub parts_kept : List ColumnDef → List ℕ → List ℕ → Result (List ℕ) ℕ
parts_kept columns [] key = Ok key
parts_kept columns (p ∷ places) key = part_kept (slice_get columns p) key >>= parts_kept columns places

abbrev pub as_some : ReadNumber → Result (Option ℕ × List ℕ) ℕ
as_some (Ok x) = Ok (Some x.0, x.1)
as_some (Err left) = Err left

-- a number of eight bytes where it is wanted
abbrev pub wanted_read : Bool → List ℕ → Result (Option ℕ × List ℕ) ℕ
wanted_read false bytes = Ok (None, bytes)
wanted_read true bytes = as_some (number_read w64 bytes)

abbrev pub ended : {A : Type 0} → A → List ℕ → Result A ℕ
ended x [] = Ok x
ended x (b ∷ rest) = Err (length (b ∷ rest))

-- the bytes behind the index number, and the hidden number
abbrev pub key_read : Bool → List ColumnDef → List ℕ → List ℕ → Result (List ℕ × Option ℕ) ℕ
key_read hidden columns places key = do
  index ← number_read w32 key
  rest ← parts_kept columns places index.1
  number ← wanted_read hidden rest
  ended (index.1, number.0) number.1

-- ---- the whole values, from the bytes behind the index number and from the unpack data. An error is the number
-- of bytes left of the unpack data and of what stands behind them; the key was read before, and has none

abbrev pub ReadPart : Type 0
ReadPart = Result (Held × List ℕ × List ℕ) ℕ

abbrev pub held_at : ℕ → List ℕ → ReadValue → ReadPart
held_at place key (Ok x) = Ok ((place, x.0) ∷ [], key, x.1)
held_at place key (Err left) = Err left

abbrev pub kept_full : ColumnDef → ℕ → List ℕ → ReadValue → ReadPart
kept_full column place unpack (Ok x) = held_at place x.1 (full_read column.ty.kind x.0 unpack)
kept_full column place unpack (Err left) = Err 0

abbrev pub part_full : Option ColumnDef → ℕ → List ℕ → List ℕ → ReadPart
part_full None place key unpack = Ok ([], key, unpack)
part_full (Some column) place key unpack = kept_full column place unpack (kept_read column.ty key)

abbrev pub and_held : Held → Result (Held × List ℕ) ℕ → Result (Held × List ℕ) ℕ
and_held held (Ok x) = Ok (held ++ x.0, x.1)
and_held held (Err left) = Err left

-- the values at these places, and what stands behind the unpack data
abbrev pub parts_full : List ColumnDef → List ℕ → List ℕ → List ℕ → Result (Held × List ℕ) ℕ
parts_full columns [] key unpack = Ok ([], unpack)
parts_full columns (p ∷ places) key unpack = part_full (slice_get columns p) p key unpack >>= (λ x. and_held x.0 (parts_full columns places x.1 x.2))
