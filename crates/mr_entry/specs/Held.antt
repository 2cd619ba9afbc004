-- What an entry of a secondary key holds, where it lies.
use Rattle.std.specs.Prelude.{◌≡◌, ℕ, ◌+◌, ◌≤◌, List, length, Bool, true, if◌then◌else◌, Option, Some, None, Result, Ok, Err, slice_get}
use Rattle.mr_base.specs.declared.stop.Malformed.{Malformed}
use Rattle.mr_types.specs.declared.definition.TableDef.{TableDef}
use Rattle.mr_types.specs.declared.definition.Ttl.{Ttl}
use Rattle.mr_types.specs.declared.row.Row.{Row}
use Rattle.mr_types.specs.Refusals.{◌>>=◌}
use Rattle.mr_types.specs.Rows.{has_ttl, is_hidden}
use Rattle.mr_rowval.specs.KeyParts.{Held, parts_full, found, is_in, wanted_read, key_read, ended}
use Rattle.mr_rowval.specs.RowValue.{is_stamp_at, further}
use Rattle.mr_types.specs.declared.value.Value.{Value}
use Rattle.mr_entry.specs.Entry.{entry_places, entry_key, entry_value}

-- the columns of its key with their whole values, the hidden number and the stamp
pub record HeldEntry : Type 0 where
  pub def : TableDef
  pub places : List ℕ
  pub hidden : Option ℕ
  pub stamp : Option ℕ
  pub held : Held

-- ---- read. An error is the number of bytes left from the first offence on

-- all but the test of the stamp
abbrev pub forms_held : TableDef → List ℕ → List ℕ → Option ℕ → List ℕ → Result HeldEntry ℕ
forms_held def places key hidden value = do
  stamp ← wanted_read (has_ttl def) value
  held ← parts_full def.columns places key stamp.1
  ended (record { def = def; places = places; hidden = hidden; stamp = stamp.0; held = held.0 }) held.1

-- where the key holds the column, the stamp is its value
abbrev pub is_place_stamp : HeldEntry → Option ℕ → Bool
is_place_stamp entry None = true
is_place_stamp entry (Some place) = if is_in entry.places place then is_stamp_at (Some (found entry.held place)) entry.stamp else true

abbrev pub is_ttl_stamp : HeldEntry → Option Ttl → Bool
is_ttl_stamp entry None = true
is_ttl_stamp entry (Some ttl) = is_place_stamp entry ttl.column

abbrev pub stamped_entry : ℕ → HeldEntry → Result HeldEntry ℕ
stamped_entry left entry = if is_ttl_stamp entry entry.def.ttl then Ok entry else Err left

-- an entry of these columns: first the key's places, then the value's, and last the stamp once more
abbrev pub entry_held : TableDef → List ℕ → List ℕ → List ℕ → Result HeldEntry ℕ
entry_held def places key value = do
  front ← further (length value) (key_read (is_hidden def) def.columns places key)
  entry ← forms_held def places front.0 front.1 value
  stamped_entry (length value) entry

-- ---- what functions answer, against the reading

abbrev pub TakesEntry : List ℕ → Result HeldEntry ℕ → Result HeldEntry ℕ → Type 0
TakesEntry value (Ok x) read = read ≡ Ok x
TakesEntry value (Err left) read = (read ≡ Err left) × (left ≤ length value)

-- the entry, or the first offence among so many bytes
abbrev pub GivesEntry : ℕ → Result HeldEntry Malformed → Result HeldEntry ℕ → Type 0
GivesEntry total (Ok x) read = read ≡ Ok x
GivesEntry total (Err malformed) read = (left : ℕ) × (read ≡ Err left) × (malformed.0 + left ≡ total)

-- ---- what an entry of a row holds

-- The entry of a row is read, with the row's own numbers and the row's value of each column of its key.
pub record HoldsRow (def : TableDef) (numbers : List ℕ) (row : Row) (index : ℕ) : Type 0 where
  pub entry : HeldEntry
  pub reads : entry_held def (entry_places def index) (entry_key def numbers row index) (entry_value def row index) ≡ Ok entry
  pub hidden : entry.hidden ≡ row.hidden
  pub stamp : entry.stamp ≡ row.stamp
  pub fields : (p : ℕ) (value : Value) → is_in (entry_places def index) p ≡ true → slice_get row.fields p ≡ Some value → found entry.held p ≡ value
