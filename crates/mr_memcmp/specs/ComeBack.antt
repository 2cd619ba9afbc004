-- What was written is read, and only that.
use Rattle.std.specs.Prelude.{◌≡◌, ℕ, ◌<◌, ◌^◌, List, [], ◌∷◌, ◌++◌, Option, Some, Ok, slice_index, slice_get}
use Rattle.std.specs.List.{flat_map}
use Rattle.std.specs.Int.{w32}
use Rattle.mr_pieces.specs.Unpack.{unpack_form}
use Rattle.mr_types.specs.declared.kind.Kind.{Kind}
use Rattle.mr_types.specs.declared.kind.Kind.TheVariants.{VarChar, VarBinary}
use Rattle.mr_types.specs.declared.kind.ColumnType.{ColumnType}
use Rattle.mr_types.specs.declared.definition.ColumnDef.{ColumnDef}
use Rattle.mr_types.specs.declared.definition.TableDef.{TableDef}
use Rattle.mr_types.specs.declared.row.Row.{Row}
use Rattle.mr_types.specs.declared.value.Value.{Value}
use Rattle.mr_types.specs.declared.value.Value.TheVariants.{Null, Number, Text, Bytes}
use Rattle.mr_types.specs.Order.{collation_of}
use Rattle.mr_types.specs.Values.{assign_to}
use Rattle.mr_types.specs.Rows.{IsValue}
use Rattle.mr_memcmp.specs.Keys.{column_bytes, parts_bytes, columns_bytes}
use Rattle.mr_memcmp.specs.Reading.{number_read, field_read}

-- a list of numbers below 256
abbrev pub AreBytes : List ℕ → Type 0
AreBytes bytes = (i : ℕ) → slice_index bytes i < 256

-- the unpack form of a text; other values have none
abbrev pub unpack_bytes : Kind → Value → List ℕ
unpack_bytes kind Null = []
unpack_bytes kind (Number z) = []
unpack_bytes kind (Text text) = unpack_form (collation_of kind) text
unpack_bytes kind (Bytes bytes) = []

-- a kind whose length, where it has one, is a number of two bytes
abbrev pub IsKind : Kind → Type 0
IsKind (VarChar n collation) = n < 2 ^ 16
IsKind (VarBinary n) = n < 2 ^ 16
IsKind _ = Unit {0}

-- a value that the column takes as it is
pub record IsTaken (column : ColumnType) (value : Value) : Type 0 where
  pub is_value : IsValue value
  pub as_it_is : assign_to column value ≡ Ok value

-- A column that was written is read again, whatever stands behind it.
abbrev pub ColumnComesBack : ColumnType → Value → Type 0
ColumnComesBack column value = (key unpack : List ℕ) → field_read column (column_bytes column value ++ key) (unpack_bytes column.kind value ++ unpack) ≡ Ok (value, key, unpack)

-- Bytes from which a column was read are those that are written of it, and it is one that the column takes.
pub record WasWritten (column : ColumnType) (value : Value) (key key_after unpack unpack_after : List ℕ) : Type 0 where
  pub of_key : key ≡ column_bytes column value ++ key_after
  pub of_unpack : unpack ≡ unpack_bytes column.kind value ++ unpack_after
  pub taken : IsTaken column value

abbrev pub OnlyWrittenIsRead : ColumnType → Type 0
OnlyWrittenIsRead column = (value : Value) (key key_after unpack unpack_after : List ℕ) → AreBytes key → AreBytes unpack → field_read column key unpack ≡ Ok (value, key_after, unpack_after) → WasWritten column value key key_after unpack unpack_after

-- ---- a key

abbrev pub part_unpack : Option ColumnDef → Option Value → List ℕ
part_unpack (Some column) (Some value) = unpack_bytes column.ty.kind value
part_unpack _ _ = []

-- the unpack data beside the columns at these places
abbrev pub parts_unpack : List ColumnDef → List Value → List ℕ → List ℕ
parts_unpack columns values places = flat_map (λ p. part_unpack (slice_get columns p) (slice_get values p)) places

-- A key is read again, with its unpack data beside it: the index number, and then column by column, whatever stands behind.
pub record KeyComesBack (index : ℕ) (def : TableDef) (row : Row) : Type 0 where
  pub index_first : index < 2 ^ 32 → (places rest : List ℕ) → number_read w32 (columns_bytes index def places row ++ rest) ≡ Ok (index, parts_bytes def.columns row.fields places ++ rest)
  pub then_columns : (p : ℕ) (places rest more : List ℕ) (column : ColumnDef) (value : Value) → slice_get def.columns p ≡ Some column → slice_get row.fields p ≡ Some value → IsKind column.ty.kind
      → field_read column.ty (parts_bytes def.columns row.fields (p ∷ places) ++ rest) (parts_unpack def.columns row.fields (p ∷ places) ++ more) ≡ Ok (value, parts_bytes def.columns row.fields places ++ rest, parts_unpack def.columns row.fields places ++ more)
