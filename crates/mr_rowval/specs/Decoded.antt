-- A row where it lies.
use Rattle.std.specs.Prelude.{◌≡◌, ℕ, ◌+◌, ◌≤◌, List, [], length, Bool, Some, Result, Ok, Err}
use Rattle.std.specs.Borrow.{Bor}
use Rattle.mr_base.specs.declared.stop.Malformed.{Malformed}
use Rattle.mr_types.specs.declared.definition.ColumnDef.{ColumnDef}
use Rattle.mr_types.specs.declared.definition.TableDef.{TableDef}
use Rattle.mr_types.specs.declared.row.Row.{Row}
use Rattle.mr_types.specs.declared.value.Value.{Value}
use Rattle.mr_rowval.specs.NullBits.{flags_read, nullable_count}
use Rattle.mr_rowval.specs.KeyParts.{Held, parts_full}
use Rattle.mr_rowval.specs.RowValue.{fields_read, fields_from}
use Rattle.mr_rowval.specs.Walking.{flags_of, held_of, values_of}

abbrev pub flags_in : List ColumnDef → List ℕ → List Bool
flags_in columns nulls = flags_of (flags_read (nullable_count columns) 0 0 nulls)

abbrev pub held_in : List ColumnDef → List ℕ → List ℕ → List ℕ → Held
held_in columns places key unpack = held_of (parts_full columns places key unpack)

-- the values of all columns: key, null bits, unpack data, and the columns behind them
abbrev pub fields_in : List ColumnDef → List ℕ → List ℕ → List ℕ → List ℕ → List ℕ → List Value
fields_in columns places key nulls unpack plain = values_of (fields_read places (held_in columns places key unpack) 0 columns (flags_in columns nulls) plain)

-- each part was read, and ends where the next one begins
pub record IsDecoded (columns : List ColumnDef) (places key nulls unpack plain : List ℕ) : Type 0 where
  pub flags : flags_read (nullable_count columns) 0 0 nulls ≡ Some (flags_in columns nulls, unpack)
  pub held : parts_full columns places key unpack ≡ Ok (held_in columns places key unpack, plain)
  pub fields : fields_read places (held_in columns places key unpack) 0 columns (flags_in columns nulls) plain ≡ Ok (fields_in columns places key nulls unpack plain, [])

-- what a row that was decoded means
pub record Decoded : Type 0 where
  pub def : TableDef
  pub row : Row
  pub key : List ℕ
  pub value : List ℕ

-- ---- what functions answer, against the reading

-- where the unpack data begin, and the columns behind them
abbrev pub TakesParts : List ColumnDef → List ℕ → List ℕ → List ℕ → Result (Bor (List ℕ) × Bor (List ℕ)) ℕ → Type 0
TakesParts columns places key nulls (Ok x) = IsDecoded columns places key nulls x.0.now x.1.now
TakesParts columns places key nulls (Err left) = (fields_from columns places key nulls ≡ Err left) × (left ≤ length nulls)

-- the row of an entry, or the first offence among so many bytes
abbrev pub DecodesRow : TableDef → ℕ → Result Decoded Malformed → Result Row ℕ → Type 0
DecodesRow def total (Ok x) read = (read ≡ Ok x.row) × (x.def ≡ def)
DecodesRow def total (Err malformed) read = (left : ℕ) × (read ≡ Err left) × (malformed.0 + left ≡ total)
