-- What keys are for: their bytes stand in the order of their columns.
use Rattle.std.specs.Prelude.{◌≡◌, ◌≢◌, ◌↔◌, ℕ, List, [], ◌∷◌, ◌++◌, Option, Some, slice_get}
use Rattle.std.specs.declared.cmp.Ordering.{Ordering}
use Rattle.std.specs.declared.cmp.Ordering.TheVariants.{Less, Equal, Greater}
use Rattle.std.specs.Ordering.{nat_cmp, ordering_then}
use Rattle.mr_pieces.specs.Order.{bytes_cmp}
use Rattle.mr_types.specs.declared.definition.ColumnDef.{ColumnDef}
use Rattle.mr_types.specs.declared.definition.TableDef.{TableDef}
use Rattle.mr_types.specs.declared.row.Row.{Row}
use Rattle.mr_types.specs.declared.value.Value.{Value}
use Rattle.mr_types.specs.Order.{value_cmp, IsSame}
use Rattle.mr_memcmp.specs.Keys.{columns_bytes, key_bytes_of}

-- ---- the order of rows

abbrev pub part_cmp : Option ColumnDef → Option Value → Option Value → Ordering
part_cmp (Some column) (Some a) (Some b) = value_cmp column.ty.kind a b
part_cmp _ _ _ = Equal

-- by the first of these columns, where it is the same by the second, and so on
abbrev pub columns_cmp : List ColumnDef → List ℕ → List Value → List Value → Ordering
columns_cmp columns [] xs ys = Equal
columns_cmp columns (p ∷ places) xs ys = ordering_then (part_cmp (slice_get columns p) (slice_get xs p) (slice_get ys p)) (columns_cmp columns places xs ys)

abbrev pub hidden_cmp : Option ℕ → Option ℕ → Ordering
hidden_cmp (Some a) (Some b) = nat_cmp a b
hidden_cmp _ _ = Equal

-- by the columns, and then by the hidden number
abbrev pub row_cmp : TableDef → List ℕ → Row → Row → Ordering
row_cmp def places x y = ordering_then (columns_cmp def.columns places x.fields y.fields) (hidden_cmp x.hidden y.hidden)

abbrev pub IsSamePart : Option ColumnDef → Option Value → Option Value → Type 0
IsSamePart (Some column) (Some a) (Some b) = IsSame column.ty.kind a b
IsSamePart _ _ _ = Unit {0}

-- the values of each of these columns are the same
abbrev pub AllSame : List ColumnDef → List ℕ → List Value → List Value → Type 0
AllSame columns [] xs ys = Unit {0}
AllSame columns (p ∷ places) xs ys = IsSamePart (slice_get columns p) (slice_get xs p) (slice_get ys p) × AllSame columns places xs ys

-- ---- the order of keys

-- where the second goes on from the first, it is the first
abbrev pub IsPrefixFree : List ℕ → List ℕ → Type 0
IsPrefixFree a b = (rest : List ℕ) → b ≡ a ++ rest → rest ≡ []

-- Keys of an index are in the order of their rows; they are equal exactly where all the values are the same; none is a
-- proper front of another.
pub record KeysInOrder (index : ℕ) (def : TableDef) (places : List ℕ) (x y : Row) : Type 0 where
  pub order : bytes_cmp (key_bytes_of index def places x) (key_bytes_of index def places y) ≡ row_cmp def places x y
  pub same : (key_bytes_of index def places x ≡ key_bytes_of index def places y) ↔ (AllSame def.columns places x.fields y.fields × (x.hidden ≡ y.hidden))
  pub prefix_free : IsPrefixFree (key_bytes_of index def places x) (key_bytes_of index def places y)

-- So are the bytes of the columns alone, without the hidden number.
pub record ColumnsInOrder (index : ℕ) (def : TableDef) (places : List ℕ) (x y : Row) : Type 0 where
  pub order : bytes_cmp (columns_bytes index def places x) (columns_bytes index def places y) ≡ columns_cmp def.columns places x.fields y.fields
  pub same : (columns_bytes index def places x ≡ columns_bytes index def places y) ↔ AllSame def.columns places x.fields y.fields
  pub prefix_free : IsPrefixFree (columns_bytes index def places x) (columns_bytes index def places y)

-- ---- ranges

-- The row's first columns, `front`, compare to the given values as its key does to their bytes: at or above them where
-- it is at or above the bytes, the same where it goes on from the bytes, and strictly above where it is above all that
-- goes on from them.
pub record KeysInRange (index : ℕ) (def : TableDef) (front more : List ℕ) (row given : Row) : Type 0 where
  pub at_or_above : (columns_cmp def.columns front row.fields given.fields ≢ Less) ↔ (bytes_cmp (key_bytes_of index def (front ++ more) row) (columns_bytes index def front given) ≢ Less)
  pub same : (columns_cmp def.columns front row.fields given.fields ≡ Equal) ↔ ((rest : List ℕ) × (key_bytes_of index def (front ++ more) row ≡ columns_bytes index def front given ++ rest))
  pub above : (columns_cmp def.columns front row.fields given.fields ≡ Greater) ↔ ((rest : List ℕ) → bytes_cmp (key_bytes_of index def (front ++ more) row) (columns_bytes index def front given ++ rest) ≡ Greater)
