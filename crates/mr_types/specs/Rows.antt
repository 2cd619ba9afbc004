-- Which rows a table has.
use Rattle.std.specs.Prelude.{◌≡◌, ℕ, ◌<◌, ◌^◌, pos, Bool, true, false, List, [], ◌∷◌, Option, Some, None, is_some, slice_get, Ok}
use Rattle.std.specs.List.{AllByRecursion}
use Rattle.mr_pieces.specs.Order.{IsAscii}
use Rattle.mr_types.specs.declared.value.Value.{Value}
use Rattle.mr_types.specs.declared.value.Value.TheVariants.{Null, Number, Text, Bytes}
use Rattle.mr_types.specs.declared.definition.ColumnDef.{ColumnDef}
use Rattle.mr_types.specs.declared.definition.TableDef.{TableDef}
use Rattle.mr_types.specs.declared.definition.Ttl.{Ttl}
use Rattle.mr_types.specs.declared.row.Row.{Row}
use Rattle.mr_types.specs.Values.{assign_to}

-- texts are ASCII, bytes are bytes
abbrev pub IsValue : Value → Type 0
IsValue Null = Unit {0}
IsValue (Number n) = Unit {0}
IsValue (Text text) = IsAscii text
IsValue (Bytes bytes) = AllByRecursion (λ b. b < 256) bytes

-- a value that assignment to the column leaves as it is
pub record IsFieldOf (column : ColumnDef) (value : Value) : Type 0 where
  pub is_value : IsValue value
  pub as_it_is : assign_to column.ty value ≡ Ok value

-- one per column
abbrev pub AreFields : List ColumnDef → List Value → Type 0
AreFields [] [] = Unit {0}
AreFields [] (value ∷ values) = ⊥
AreFields (column ∷ columns) [] = ⊥
AreFields (column ∷ columns) (value ∷ values) = IsFieldOf column value × AreFields columns values

-- a number of 64 bits exactly where it is wanted
abbrev pub IsWanted : Bool → Option ℕ → Type 0
IsWanted true (Some n) = n < 2 ^ 64
IsWanted true None = ⊥
IsWanted false (Some n) = ⊥
IsWanted false None = Unit {0}

abbrev pub is_none_of : List ℕ → Bool
is_none_of [] = true
is_none_of (place ∷ places) = false

-- without a primary key
abbrev pub is_hidden : TableDef → Bool
is_hidden def = is_none_of def.primary.columns

abbrev pub has_ttl : TableDef → Bool
has_ttl def = is_some def.ttl

-- where the TTL names a column, the stamp is its value
abbrev pub IsStampOf : Option Ttl → Row → Type 0
IsStampOf None row = Unit {0}
IsStampOf (Some ttl) row = (place stamp : ℕ) → ttl.column ≡ Some place → row.stamp ≡ Some stamp → slice_get row.fields place ≡ Some (Number (pos stamp))

pub record IsRowOf (def : TableDef) (row : Row) : Type 0 where
  pub fields : AreFields def.columns row.fields
  pub hidden_number : IsWanted (is_hidden def) row.hidden
  pub stamp : IsWanted (has_ttl def) row.stamp
  pub stamp_column : IsStampOf def.ttl row
