-- Given values of an index's first columns, against the rows of a table.
use Rattle.std.specs.Prelude.{◌≡◌, ◌≢◌, ◌↔◌, ℕ, suc, List, [], ◌∷◌, ◌++◌, take, drop, ◌==◌, if◌then◌else◌, Option, Some, None, slice_get}
use Rattle.std.specs.declared.cmp.Ordering.{Ordering}
use Rattle.std.specs.declared.cmp.Ordering.TheVariants.{Less, Equal, Greater}
use Rattle.std.specs.Ordering.{ordering_then}
use Rattle.byteorder.specs.Endian.{big_bytes}
use Rattle.mr_pieces.specs.Order.{bytes_cmp}
use Rattle.mr_types.specs.declared.kind.Kind.{Kind}
use Rattle.mr_types.specs.declared.definition.ColumnDef.{ColumnDef}
use Rattle.mr_types.specs.declared.definition.TableDef.{TableDef}
use Rattle.mr_types.specs.declared.row.Row.{Row}
use Rattle.mr_types.specs.declared.value.Value.{Value}
use Rattle.mr_types.specs.declared.value.Value.TheVariants.{Null, Number, Text, Bytes}
use Rattle.mr_types.specs.Values.{length_of_kind}
use Rattle.mr_memcmp.specs.Keys.{column_bytes, parts_bytes, hidden_bytes, key_bytes_of}
use Rattle.mr_memcmp.specs.KeyOrder.{part_cmp}
use Rattle.mr_memcmp.specs.Fitting.{FitsPart}
use Rattle.mr_memcmp.specs.Above.{GoesOn, IsBelow, above_of}

-- ---- what can matter of a value that is longer than its column takes

abbrev pub first_no_space : List ℕ → Option ℕ
first_no_space [] = None
first_no_space (c ∷ text) = if c == 32 then first_no_space text else Some c

abbrev pub as_list : Option ℕ → List ℕ
as_list None = []
as_list (Some c) = c ∷ []

-- the first n bytes, and of those behind them the first that is no space
abbrev pub cut_text : ℕ → List ℕ → List ℕ
cut_text n text = take n text ++ as_list (first_no_space (drop n text))

-- of bytes one more than the column takes
abbrev pub cut : Kind → Value → Value
cut kind Null = Null
cut kind (Number z) = Number z
cut kind (Text text) = Text (cut_text (length_of_kind kind) text)
cut kind (Bytes bytes) = Bytes (take (suc (length_of_kind kind)) bytes)

-- ---- the bytes of values in key order

-- a place past the last column has no bytes
abbrev pub given_part : Option ColumnDef → Value → List ℕ
given_part None value = []
given_part (Some column) value = column_bytes column.ty (cut column.ty.kind value)

-- of the first columns, as many as there are values
abbrev pub given_parts : List ColumnDef → List ℕ → List Value → List ℕ
given_parts columns [] values = []
given_parts columns (p ∷ places) [] = []
given_parts columns (p ∷ places) (value ∷ values) = given_part (slice_get columns p) value ++ given_parts columns places values

-- behind the index number, or without it
abbrev pub behind_number : Option ℕ → List ℕ → List ℕ
behind_number None bytes = bytes
behind_number (Some index) bytes = big_bytes 4 index ++ bytes

abbrev pub given_bytes : Option ℕ → TableDef → List ℕ → List Value → List ℕ
given_bytes index def places values = behind_number index (given_parts def.columns places values)

-- each value fits the column that it stands for
abbrev pub AllGiven : List ColumnDef → List ℕ → List Value → Type 0
AllGiven columns [] values = Unit {0}
AllGiven columns (p ∷ places) [] = Unit {0}
AllGiven columns (p ∷ places) (value ∷ values) = FitsPart (slice_get columns p) (Some value) × AllGiven columns places values

-- ---- rows against them

-- a row's first columns against the values: by the first, where it is the same by the second, and so on. Texts that are
-- equal but for spaces at their end are the same.
abbrev pub given_cmp : List ColumnDef → List ℕ → List Value → List Value → Ordering
given_cmp columns [] fields values = Equal
given_cmp columns (p ∷ places) fields [] = Equal
given_cmp columns (p ∷ places) fields (value ∷ values) = ordering_then (part_cmp (slice_get columns p) (slice_get fields p) (Some value)) (given_cmp columns places fields values)

-- a row's key, or what stands in it behind the index number
abbrev pub row_key : Option ℕ → TableDef → List ℕ → Row → List ℕ
row_key None def places row = parts_bytes def.columns row.fields places ++ hidden_bytes row.hidden
row_key (Some index) def places row = key_bytes_of index def places row

-- A row's first columns compare with given values as its key does with their bytes: at or above the values where the
-- key is at or above the bytes, the same where the key goes on from them, and at or below the values where it is below
-- the least bytes behind all that goes on from them.
pub record PartsInRange (index : Option ℕ) (def : TableDef) (places : List ℕ) (row : Row) (values : List Value) : Type 0 where
  pub at_or_above : (given_cmp def.columns places row.fields values ≢ Less) ↔ (bytes_cmp (row_key index def places row) (given_bytes index def places values) ≢ Less)
  pub same : (given_cmp def.columns places row.fields values ≡ Equal) ↔ GoesOn (row_key index def places row) (given_bytes index def places values)
  pub at_or_below : (given_cmp def.columns places row.fields values ≢ Greater) ↔ IsBelow (row_key index def places row) (above_of (given_bytes index def places values))
