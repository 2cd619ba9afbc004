-- What entries are for.
use Rattle.std.specs.Prelude.{◌≡◌, ℕ, zero, suc, ◌<◌, ◌^◌, true, List, Some, Ok, slice_get}
use Rattle.mr_types.specs.declared.definition.ColumnDef.{ColumnDef}
use Rattle.mr_types.specs.declared.definition.TableDef.{TableDef}
use Rattle.mr_types.specs.declared.row.Row.{Row}
use Rattle.mr_types.specs.Rows.{IsRowOf}
use Rattle.mr_memcmp.specs.Keys.{key_bytes_of}
use Rattle.mr_memcmp.specs.ComeBack.{AreBytes}
use Rattle.mr_rowval.specs.KeyParts.{is_in}
use Rattle.mr_rowval.specs.Promises.{AreDistinct, HasKey}
use Rattle.mr_entry.specs.Entry.{entry_places, entry_key, entry_value, entry_read}

-- each column is among those of the key
abbrev pub CoversAll : TableDef → List ℕ → Type 0
CoversAll def places = (p : ℕ) (column : ColumnDef) → slice_get def.columns p ≡ Some column → is_in places p ≡ true

-- a secondary key that holds all columns; a primary entry holds them always
abbrev pub IsCovering : TableDef → ℕ → Type 0
IsCovering def zero = Unit {0}
IsCovering def (suc i) = CoversAll def (entry_places def (suc i))

-- The entry of a row is read again as that row, byte for byte.
abbrev pub EntryComesBack : TableDef → List ℕ → Row → ℕ → Type 0
EntryComesBack def numbers row index = entry_read def index (entry_key def numbers row index) (entry_value def row index) ≡ Ok row

-- A key and a value from which a row was read are what is written of it, and it is a row of the table.
pub record WasEntry (def : TableDef) (index : ℕ) (key value : List ℕ) (row : Row) : Type 0 where
  pub is_row : IsRowOf def row
  pub its_key : (number : ℕ) × (number < 2 ^ 32) × (key ≡ key_bytes_of number def (entry_places def index) row)
  pub its_value : value ≡ entry_value def row index

-- no column stands twice in the key, and those of a primary key are NOT NULL
abbrev pub HasColumns : TableDef → ℕ → Type 0
HasColumns def zero = HasKey def
HasColumns def (suc i) = AreDistinct (entry_places def (suc i))

abbrev pub OnlyEntriesAreRead : TableDef → ℕ → Type 0
OnlyEntriesAreRead def index = (key value : List ℕ) (row : Row) → AreBytes key → AreBytes value → entry_read def index key value ≡ Ok row → WasEntry def index key value row
