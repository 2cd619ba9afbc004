-- Columns that hold stamps, and numbers of 64 bits.
use Rattle.std.specs.Prelude.{◌≡◌, ◌<◌, ◌^◌, ◌↔◌, ℕ, true, Some, None, slice_get}
use Rattle.mr_types.specs.declared.definition.ColumnDef.{ColumnDef}
use Rattle.mr_types.specs.declared.definition.TableDef.{TableDef}
use Rattle.mr_types.specs.declared.definition.Ttl.{Ttl}
use Rattle.mr_types.specs.declared.row.Row.{Row}
use Rattle.mr_types.specs.Rows.{IsRowOf}
use Rattle.mr_spec.specs.Lawful.{is_row_of}
use Rattle.mr_spec.specs.TtlOptions.{may_hold_stamp}

-- where the TTL names a column, it is there, and BIGINT UNSIGNED NOT NULL
abbrev pub HasStampColumn : TableDef → Type 0
HasStampColumn def = (ttl : Ttl) (place : ℕ) → def.ttl ≡ Some ttl → ttl.column ≡ Some place → (column : ColumnDef) × (slice_get def.columns place ≡ Some column) × (may_hold_stamp column ≡ true)

-- The hidden number has 64 bits, and so has a stamp that no column holds; one that a column holds has them by the column.
pub record HasNumbersOf64Bits (def : TableDef) (row : Row) : Type 0 where
  pub hidden : (n : ℕ) → row.hidden ≡ Some n → n < 2 ^ 64
  pub stamp : (ttl : Ttl) (n : ℕ) → def.ttl ≡ Some ttl → ttl.column ≡ None → row.stamp ≡ Some n → n < 2 ^ 64

-- the rows of lawful commits whose numbers have 64 bits are those that are written as bytes
abbrev pub RowsAreOne : TableDef → Row → Type 0
RowsAreOne def row = IsRowOf def row ↔ ((is_row_of def row ≡ true) × HasNumbersOf64Bits def row)
