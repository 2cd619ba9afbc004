-- What functions answer, against the reading.
use Rattle.std.specs.Prelude.{◌≡◌, ℕ, suc, ◌≤◌, List, [], ◌∷◌, ◌++◌, length, drop, Bool, false, Option, Some, None, Result, Ok, Err, slice_get, ◌==◌}
use Rattle.std.specs.Borrow.{Bor}
use Rattle.mr_types.specs.declared.kind.Kind.{Kind}
use Rattle.mr_types.specs.declared.kind.Kind.TheVariants.{Int}
use Rattle.mr_types.specs.declared.definition.ColumnDef.{ColumnDef}
use Rattle.mr_types.specs.declared.value.Value.{Value}
use Rattle.mr_types.specs.declared.value.Value.TheVariants.{Null}
use Rattle.mr_types.specs.declared.field.FieldRef.{FieldRef}
use Rattle.mr_types.specs.FieldValues.{field_value}
use Rattle.mr_memcmp.specs.Reading.{ReadValue}
use Rattle.mr_rowval.specs.declared.nulls.Bits.{Bits}
use Rattle.mr_rowval.specs.NullBits.{Flags, flags_read, after_flag, nullable_count}
use Rattle.mr_rowval.specs.KeyParts.{Held, ReadPart}
use Rattle.mr_rowval.specs.RowValue.{ReadFields, fields_read}

abbrev pub behind_of : {A : Type 0} → Result (A × List ℕ) ℕ → Result (List ℕ) ℕ
behind_of (Ok x) = Ok x.1
behind_of (Err left) = Err left

-- a function gives what stands behind, or the offence
abbrev pub Skips : List ℕ → Result (Bor (List ℕ)) ℕ → Result (List ℕ) ℕ → Type 0
Skips bytes (Ok rest) read = (read ≡ Ok rest.now) × (length rest.now ≤ length bytes)
Skips bytes (Err left) read = (read ≡ Err left) × (left ≤ length bytes)

-- ---- null bits

-- the flags of so many columns, in bits that were read up to here
abbrev pub bits_read : ℕ → Bits → Flags
bits_read n bits = flags_read n bits.left bits.byte bits.rest.now

abbrev pub NextFlag : ℕ → Bits → Option (Bool × Bits) → Type 0
NextFlag n bits None = bits_read (suc n) bits ≡ None
NextFlag n bits (Some x) = bits_read (suc n) bits ≡ after_flag x.0 (bits_read n x.1)

abbrev pub LeavesBits : Bits → Option (Bool × Bits) → Type 0
LeavesBits bits None = Unit {0}
LeavesBits bits (Some x) = length x.1.rest.now ≤ length bits.rest.now

abbrev pub flags_of : Flags → List Bool
flags_of (Some x) = x.0
flags_of None = []

-- ---- the key with its unpack data

abbrev pub kind_of_column : Option ColumnDef → Kind
kind_of_column None = Int
kind_of_column (Some column) = column.ty.kind

-- the kind of a column; INT past the last one
abbrev pub kind_at : List ColumnDef → ℕ → Kind
kind_at columns place = kind_of_column (slice_get columns place)

abbrev pub value_or_null : Option Value → Value
value_or_null None = Null
value_or_null (Some value) = value

-- the value of a column; NULL past the last one
abbrev pub value_at : List Value → ℕ → Value
value_at values place = value_or_null (slice_get values place)

abbrev pub held_of : {E : Type 0} → Result (Held × List ℕ) E → Held
held_of (Ok x) = x.0
held_of (Err left) = []

abbrev pub held_part : Kind → ℕ → Option FieldRef → Held
held_part kind place None = []
held_part kind place (Some field) = (place, field_value kind field) ∷ []

-- a part of the key was read: what is left of the key and of the unpack data
abbrev pub TakesPart : Kind → ℕ → List ℕ → Result (Option FieldRef × Bor (List ℕ) × Bor (List ℕ)) ℕ → ReadPart → Type 0
TakesPart kind place unpack (Ok x) read = (read ≡ Ok (held_part kind place x.0, x.1.now, x.2.now)) × (length x.2.now ≤ length unpack)
TakesPart kind place unpack (Err left) read = (read ≡ Err left) × (left ≤ length unpack)

-- it is the value of that column
abbrev pub is_held_at : ℕ → ℕ → Option FieldRef → Bool
is_held_at part place None = false
is_held_at part place (Some field) = part == place

-- ---- the other columns

abbrev pub values_of : ReadFields → List Value
values_of (Ok x) = x.0
values_of (Err left) = []

abbrev pub and_values : List Value → ReadFields → ReadFields
and_values front (Ok x) = Ok (front ++ x.0, x.1)
and_values front (Err left) = Err left

-- reading went on up to a column: there are the values before it, the flags from it on, and the bytes that are left
abbrev pub ReadTo : List ColumnDef → List ℕ → ℕ → List Bool → List ℕ → Held → List ℕ → Result (Bits × Bor (List ℕ)) ℕ → Type 0
ReadTo columns places end flags bytes held after (Ok x) =
    (front : List Value) × (later : List Bool) × (length front ≡ end) × (bits_read (nullable_count (drop end columns)) x.0 ≡ Some (later, after))
    × (fields_read places held 0 columns flags bytes ≡ and_values front (fields_read places held end (drop end columns) later x.1.now))
ReadTo columns places end flags bytes held after (Err left) = fields_read places held 0 columns flags bytes ≡ Err left

abbrev pub LeavesRest : {A : Type 0} → List ℕ → Result (A × Bor (List ℕ)) ℕ → Type 0
LeavesRest bytes (Ok x) = length x.1.now ≤ length bytes
LeavesRest bytes (Err left) = left ≤ length bytes

-- and a field was read as the reading says
abbrev pub TakesField : Kind → List ℕ → Result (FieldRef × Bor (List ℕ)) ℕ → ReadValue → Type 0
TakesField kind bytes (Ok x) read = (read ≡ Ok (field_value kind x.0, x.1.now)) × (length x.1.now ≤ length bytes)
TakesField kind bytes (Err left) read = (read ≡ Err left) × (left ≤ length bytes)

abbrev pub TakesWanted : List ℕ → Result (Option ℕ × Bor (List ℕ)) ℕ → Result (Option ℕ × List ℕ) ℕ → Type 0
TakesWanted bytes (Ok x) read = (read ≡ Ok (x.0, x.1.now)) × (length x.1.now ≤ length bytes)
TakesWanted bytes (Err left) read = (read ≡ Err left) × (left ≤ length bytes)

abbrev pub TakesKey : List ℕ → Result (Bor (List ℕ) × Option ℕ) ℕ → Result (List ℕ × Option ℕ) ℕ → Type 0
TakesKey key (Ok x) read = read ≡ Ok (x.0.now, x.1)
TakesKey key (Err left) read = (read ≡ Err left) × (left ≤ length key)
