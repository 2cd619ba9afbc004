-- What row values are for.
use Rattle.std.specs.Prelude.{◌≡◌, ℕ, ◌<◌, ◌^◌, false, List, [], ◌∷◌, Ok, slice_get, Some}
use Rattle.std.specs.List.{AllByRecursion}
use Rattle.mr_types.specs.declared.definition.ColumnDef.{ColumnDef}
use Rattle.mr_types.specs.declared.definition.TableDef.{TableDef}
use Rattle.mr_types.specs.declared.row.Row.{Row}
use Rattle.mr_types.specs.Rows.{IsRowOf}
use Rattle.mr_memcmp.specs.Keys.{key_bytes_of}
use Rattle.mr_memcmp.specs.ComeBack.{AreBytes, IsKind}
use Rattle.mr_rowval.specs.KeyParts.{is_in}
use Rattle.mr_rowval.specs.RowValue.{row_value_bytes, row_read}

-- lengths of columns are numbers of two bytes
abbrev pub HasKinds : List ColumnDef → Type 0
HasKinds columns = AllByRecursion (λ column. IsKind column.ty.kind) columns

-- no place stands twice
abbrev pub AreDistinct : List ℕ → Type 0
AreDistinct [] = Unit {0}
AreDistinct (p ∷ places) = (is_in places p ≡ false) × AreDistinct places

-- the columns of a primary key are NOT NULL
abbrev pub AreNotNull : List ColumnDef → List ℕ → Type 0
AreNotNull columns places = AllByRecursion (λ p. (column : ColumnDef) → slice_get columns p ≡ Some column → column.ty.nullable ≡ false) places

pub record HasKey (def : TableDef) : Type 0 where
  pub distinct : AreDistinct def.primary.columns
  pub not_null : AreNotNull def.columns def.primary.columns

-- The entry of a row is read again as that row, byte for byte.
abbrev pub RowComesBack : ℕ → TableDef → Row → Type 0
RowComesBack index def row = row_read def (key_bytes_of index def def.primary.columns row) (row_value_bytes def row) ≡ Ok row

-- A key and a value from which a row was read are what is written of it, and it is a row of the table.
pub record WasEntry (def : TableDef) (key value : List ℕ) (row : Row) : Type 0 where
  pub is_row : IsRowOf def row
  pub its_key : (index : ℕ) × (index < 2 ^ 32) × (key ≡ key_bytes_of index def def.primary.columns row)
  pub its_value : value ≡ row_value_bytes def row

abbrev pub OnlyEntriesAreRead : TableDef → Type 0
OnlyEntriesAreRead def = (key value : List ℕ) (row : Row) → AreBytes key → AreBytes value → row_read def key value ≡ Ok row → WasEntry def key value row
