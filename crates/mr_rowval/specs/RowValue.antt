-- The value of a primary entry, one part behind the other:
--
--   the stamp, 8 bytes, where the table has a TTL
--   the null bits
--   the unpack form of each text of the key, in key order
--   the columns that aren't in the key, in column order, each that isn't NULL
use Rattle.std.specs.Prelude.{ℕ, suc, ◌+◌, List, [], ◌∷◌, ◌++◌, length, Bool, true, false, if◌then◌else◌, Option, Some, None, Result, Ok, Err, pos, slice_get}
use Rattle.mr_types.specs.declared.kind.Kind.{Kind}
use Rattle.mr_types.specs.declared.definition.ColumnDef.{ColumnDef}
use Rattle.mr_types.specs.declared.definition.TableDef.{TableDef}
use Rattle.mr_types.specs.declared.definition.Ttl.{Ttl}
use Rattle.mr_types.specs.declared.row.Row.{Row}
use Rattle.mr_types.specs.declared.value.Value.{Value}
use Rattle.mr_types.specs.declared.value.Value.TheVariants.{Null, Number}
use Rattle.mr_types.specs.Refusals.{◌>>=◌}
use Rattle.mr_types.specs.Values.{is_equal}
use Rattle.mr_types.specs.Rows.{is_hidden, has_ttl}
use Rattle.mr_memcmp.specs.Keys.{hidden_bytes}
use Rattle.mr_memcmp.specs.Reading.{ReadValue}
use Rattle.mr_memcmp.specs.ComeBack.{parts_unpack}
use Rattle.mr_rowval.specs.NullBits.{Flags, null_flags, null_bits, nullable_count, flags_read}
use Rattle.mr_rowval.specs.Plain.{plain_bytes, plain_read}
use Rattle.mr_rowval.specs.KeyParts.{Held, is_in, found, wanted_read, ended, key_read, parts_full}

-- ---- what is written

-- nothing of a column that is in the key
abbrev pub field_bytes : Bool → Kind → Value → List ℕ
field_bytes true kind value = []
field_bytes false kind value = plain_bytes kind value

-- the columns from a place on
abbrev pub fields_bytes : List ℕ → ℕ → List ColumnDef → List Value → List ℕ
fields_bytes places at [] values = []
fields_bytes places at (column ∷ columns) [] = []
fields_bytes places at (column ∷ columns) (value ∷ values) = field_bytes (is_in places at) column.ty.kind value ++ fields_bytes places (suc at) columns values

abbrev pub row_value_bytes : TableDef → Row → List ℕ
row_value_bytes def row = hidden_bytes row.stamp ++ null_bits (null_flags def.columns row.fields) ++ parts_unpack def.columns row.fields def.primary.columns ++ fields_bytes def.primary.columns 0 def.columns row.fields

-- ---- and read. An error is the number of bytes left from the first offence on

abbrev pub flags_or : ℕ → Flags → Result (List Bool × List ℕ) ℕ
flags_or left (Some x) = Ok x
flags_or left None = Err left

-- the null bits are one field
abbrev pub flags_at : ℕ → List ℕ → Result (List Bool × List ℕ) ℕ
flags_at count bytes = flags_or (length bytes) (flags_read count 0 0 bytes)

abbrev pub first_flag : Bool → List Bool → Bool
first_flag false flags = false
first_flag true [] = false
first_flag true (flag ∷ flags) = flag

abbrev pub later_flags : Bool → List Bool → List Bool
later_flags false flags = flags
later_flags true [] = []
later_flags true (flag ∷ flags) = flags

abbrev pub field_read : Bool → Bool → Value → Kind → List ℕ → ReadValue
field_read true is_null held kind bytes = Ok (held, bytes)
field_read false true held kind bytes = Ok (Null, bytes)
field_read false false held kind bytes = plain_read kind bytes

abbrev pub ReadFields : Type 0
ReadFields = Result (List Value × List ℕ) ℕ

abbrev pub and_value : Value → ReadFields → ReadFields
and_value value (Ok x) = Ok (value ∷ x.0, x.1)
and_value value (Err left) = Err left

-- the columns from a place on: those in the key as they are held, NULL by their flag, and the others from the bytes
abbrev pub fields_read : List ℕ → Held → ℕ → List ColumnDef → List Bool → List ℕ → ReadFields
fields_read places held at [] flags bytes = Ok ([], bytes)
fields_read places held at (column ∷ columns) flags bytes =
    field_read (is_in places at) (first_flag column.ty.nullable flags) (found held at) column.ty.kind bytes
    >>= (λ x. and_value x.0 (fields_read places held (suc at) columns (later_flags column.ty.nullable flags) x.1))

abbrev pub is_stamp_at : Option Value → Option ℕ → Bool
is_stamp_at (Some value) (Some stamp) = is_equal value (Number (pos stamp))
is_stamp_at _ _ = false

abbrev pub is_column_stamp : Option ℕ → Row → Bool
is_column_stamp None row = true
is_column_stamp (Some place) row = is_stamp_at (slice_get row.fields place) row.stamp

-- where the TTL names a column, the stamp is its value
abbrev pub is_stamp_of : Option Ttl → Row → Bool
is_stamp_of None row = true
is_stamp_of (Some ttl) row = is_column_stamp ttl.column row

-- the values of all columns, from the null bits on
abbrev pub fields_from : List ColumnDef → List ℕ → List ℕ → List ℕ → Result (List Value) ℕ
fields_from columns places key nulls = do
  flags ← flags_at (nullable_count columns) nulls
  held ← parts_full columns places key flags.1
  fields ← fields_read places held.0 0 columns flags.0 held.1
  ended fields.0 fields.1

-- all but the test of the stamp
abbrev pub value_read : TableDef → List ℕ → Option ℕ → List ℕ → Result Row ℕ
value_read def key hidden value = do
  stamp ← wanted_read (has_ttl def) value
  fields ← fields_from def.columns def.primary.columns key stamp.1
  Ok (record { hidden = hidden; stamp = stamp.0; fields = fields })

abbrev pub stamped : TableDef → ℕ → Row → Result Row ℕ
stamped def left row = if is_stamp_of def.ttl row then Ok row else Err left

abbrev pub further : {A : Type 0} → ℕ → Result A ℕ → Result A ℕ
further more (Ok x) = Ok x
further more (Err left) = Err (left + more)

-- the row of an entry: first the key's places, then the value's, and last the stamp once more
unfoldable pub row_read : TableDef → List ℕ → List ℕ → Result Row ℕ
row_read def key value = do
  front ← further (length value) (key_read (is_hidden def) def.columns def.primary.columns key)
  row ← value_read def front.0 front.1 value
  stamped def (length value) row
