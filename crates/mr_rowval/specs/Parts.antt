-- Where the columns of a row lie in its key and in its value.
use Rattle.std.specs.Prelude.{◌≡◌, ℕ, suc, zero, ◌+◌, ◌-◌, ◌<◌, ◌≤◌, List, [], length, drop, Bool, true, false, Option, Some, None, Result, Ok, Err, slice_index_or}
use Rattle.mr_base.specs.declared.stop.Malformed.{Malformed}
use Rattle.mr_types.specs.declared.kind.Kind.{Kind}
use Rattle.mr_types.specs.declared.definition.ColumnDef.{ColumnDef}
use Rattle.mr_types.specs.declared.definition.TableDef.{TableDef}
use Rattle.mr_types.specs.declared.row.Row.{Row}
use Rattle.mr_types.specs.declared.value.Value.{Value}
use Rattle.mr_types.specs.declared.value.Value.TheVariants.{Null}
use Rattle.mr_types.specs.Rows.{has_ttl, is_hidden}
use Rattle.mr_memcmp.specs.Reading.{ReadValue}
use Rattle.mr_rowval.specs.declared.parts.RowParts.{RowParts}
use Rattle.mr_rowval.specs.KeyParts.{Held, parts_full, found, is_in, key_read, wanted_read}
use Rattle.mr_rowval.specs.Plain.{plain_read}
use Rattle.mr_rowval.specs.RowValue.{row_read}
use Rattle.mr_rowval.specs.Walking.{kind_at, value_at}

-- ---- a row while its parts are slices

pub record Walk : Type 0 where
  pub def : TableDef
  pub row : Row
  pub body : List ℕ
  pub nulls : List ℕ
  pub unpack : List ℕ
  pub plain : List ℕ

-- all but the test of the stamp
abbrev pub WalksRow : TableDef → List ℕ → List ℕ → Result Walk ℕ → Result Row ℕ → Type 0
WalksRow def key value (Ok x) read = (read ≡ Ok x.row) × (x.def ≡ def) × (x.body ≡ key) × (wanted_read (has_ttl def) value ≡ Ok (x.row.stamp, x.nulls))
WalksRow def key value (Err left) read = (read ≡ Err left) × (left ≤ length value)

-- the row of an entry with its parts, or the first offence
abbrev pub WalksEntry : TableDef → List ℕ → List ℕ → Result Walk Malformed → Result Row ℕ → Type 0
WalksEntry def key value (Ok x) read = (read ≡ Ok x.row) × (x.def ≡ def) × (key_read (is_hidden def) def.columns def.primary.columns key ≡ Ok (x.body, x.row.hidden)) × (wanted_read (has_ttl def) value ≡ Ok (x.row.stamp, x.nulls))
WalksEntry def key value (Err malformed) read = (left : ℕ) × (read ≡ Err left) × (malformed.0 + left ≡ length key + length value)

-- ---- places that are remembered

-- the rest is what stands in `bytes` behind those that it doesn't have
pub record Ends (bytes rest : List ℕ) : Type 0 where
  pub within : length rest ≤ length bytes
  pub behind : rest ≡ drop (length bytes - length rest) bytes

-- 0 for NULL, else one more than how many bytes of the value stand before the column
abbrev pub spot_of : Bool → ℕ → ℕ
spot_of true at = 0
spot_of false at = suc at

abbrev pub spot_read : Kind → List ℕ → ℕ → ReadValue
spot_read kind value zero = Ok (Null, value)
spot_read kind value (suc at) = plain_read kind (drop at value)

-- a column that isn't in the key is read at its spot
pub record IsSpot (kind : Kind) (value : List ℕ) (field : Value) (spot : ℕ) : Type 0 where
  pub within : spot ≤ suc (length value)
  pub reads : (rest : List ℕ) × (spot_read kind value spot ≡ Ok (field, rest))

-- the columns up to a place
abbrev pub AreSpots : List ColumnDef → List ℕ → List ℕ → List Value → List ℕ → ℕ → Type 0
AreSpots columns places value fields spots end = (p : ℕ) → p < end → p < length columns → is_in places p ≡ false → IsSpot (kind_at columns p) value (value_at fields p) (slice_index_or spots p 0)

-- ---- the parts of a row

-- the key's columns, by the unpack data that begin there
pub record HoldsKey (columns : List ColumnDef) (places key value : List ℕ) (fields : List Value) (unpack : ℕ) : Type 0 where
  pub long : 4 ≤ length key
  pub within : unpack ≤ length value
  pub held : Held
  pub rest : List ℕ
  pub reads : parts_full columns places (drop 4 key) (drop unpack value) ≡ Ok (held, rest)
  pub are : (p : ℕ) → p < length columns → is_in places p ≡ true → value_at fields p ≡ found held p

-- These parts are those of the row that this key and this value are of.
pub record ArePartsOf (def : TableDef) (key value : List ℕ) (parts : RowParts) : Type 0 where
  pub row : Row
  pub reads : row_read def key value ≡ Ok row
  pub hidden : parts.hidden ≡ row.hidden
  pub stamp : parts.stamp ≡ row.stamp
  pub keys : HoldsKey def.columns def.primary.columns key value row.fields parts.unpack
  pub spots : AreSpots def.columns def.primary.columns value row.fields parts.spots 64

abbrev pub row_or_none : Result Row ℕ → Row
row_or_none (Ok row) = row
row_or_none (Err left) = record { hidden = None; stamp = None; fields = [] }

-- the row of a key and a value
abbrev pub row_in : TableDef → List ℕ → List ℕ → Row
row_in def key value = row_or_none (row_read def key value)
