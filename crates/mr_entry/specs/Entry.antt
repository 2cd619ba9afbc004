-- Entries of an index: that of number 0 is the primary key, those behind it are the secondary keys in order.
--
-- The key has the columns of the index, and behind them those of the primary key that aren't among them. The value of a
-- secondary entry is
--
--   the stamp, 8 bytes, where the table has a TTL
--   the unpack form of each text of its key, in key order
use Rattle.std.specs.Prelude.{◌≡◌, ℕ, zero, suc, ◌/◌, ◌%◌, ◌^◌, List, [], ◌∷◌, ◌++◌, length, Bool, ◌||◌, if◌then◌else◌, Option, Some, None, Result, slice_get, slice_index_or}
use Rattle.mr_types.specs.declared.definition.ColumnDef.{ColumnDef}
use Rattle.mr_types.specs.declared.definition.IndexDef.{IndexDef}
use Rattle.mr_types.specs.declared.definition.TableDef.{TableDef}
use Rattle.mr_types.specs.declared.row.Row.{Row}
use Rattle.mr_types.specs.declared.value.Value.{Value}
use Rattle.mr_types.specs.Refusals.{◌>>=◌}
use Rattle.mr_types.specs.Rows.{is_hidden, has_ttl}
use Rattle.mr_memcmp.specs.Keys.{hidden_bytes, key_bytes_of}
use Rattle.mr_memcmp.specs.ComeBack.{parts_unpack}
use Rattle.mr_rowval.specs.KeyParts.{Held, is_in, found, wanted_read, ended, key_read, parts_full}
use Rattle.mr_rowval.specs.RowValue.{row_value_bytes, row_read, stamped, further}

-- ---- the columns of an index

abbrev pub columns_of : Option IndexDef → List ℕ
columns_of None = []
columns_of (Some key) = key.columns

-- the columns of a secondary key
abbrev pub own_places : TableDef → ℕ → List ℕ
own_places def zero = []
own_places def (suc i) = columns_of (slice_get def.secondary i)

abbrev pub not_among : List ℕ → List ℕ → List ℕ
not_among own [] = []
not_among own (p ∷ places) = if is_in own p then not_among own places else p ∷ not_among own places

abbrev pub entry_places : TableDef → ℕ → List ℕ
entry_places def zero = def.primary.columns
entry_places def (suc i) = own_places def (suc i) ++ not_among (own_places def (suc i)) def.primary.columns

-- the column is in the key, or in the primary key
abbrev pub is_reached : TableDef → ℕ → ℕ → Bool
is_reached def index p = is_in (own_places def index) p || is_in def.primary.columns p

-- the bit of a column is set
abbrev pub IsNeeded : ℕ → ℕ → Type 0
IsNeeded needed p = needed / 2 ^ p % 2 ≡ 1

-- ---- what is written

-- index number 0 where none is given
abbrev pub entry_key : TableDef → List ℕ → Row → ℕ → List ℕ
entry_key def numbers row index = key_bytes_of (slice_index_or numbers index 0) def (entry_places def index) row

abbrev pub entry_value : TableDef → Row → ℕ → List ℕ
entry_value def row zero = row_value_bytes def row
entry_value def row (suc i) = hidden_bytes row.stamp ++ parts_unpack def.columns row.fields (entry_places def (suc i))

-- ---- and read. An error is the number of bytes left from the first offence on

-- the columns from a place on, as they are held
abbrev pub fields_held : Held → ℕ → List ColumnDef → List Value
fields_held held at [] = []
fields_held held at (column ∷ columns) = found held at ∷ fields_held held (suc at) columns

-- all but the test of the stamp
abbrev pub forms_read : TableDef → List ℕ → List ℕ → Option ℕ → List ℕ → Result Row ℕ
forms_read def places key hidden value = do
  stamp ← wanted_read (has_ttl def) value
  held ← parts_full def.columns places key stamp.1
  ended (record { hidden = hidden; stamp = stamp.0; fields = fields_held held.0 0 def.columns }) held.1

-- an entry of these columns
abbrev pub covering_read : TableDef → List ℕ → List ℕ → List ℕ → Result Row ℕ
covering_read def places key value = do
  front ← further (length value) (key_read (is_hidden def) def.columns places key)
  row ← forms_read def places front.0 front.1 value
  stamped def (length value) row

-- the row of an entry; columns that are not in its key are NULL
abbrev pub entry_read : TableDef → ℕ → List ℕ → List ℕ → Result Row ℕ
entry_read def zero key value = row_read def key value
entry_read def (suc i) key value = covering_read def (entry_places def (suc i)) key value
