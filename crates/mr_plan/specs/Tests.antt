-- Ranges of keys from tests of one column, behind the bytes of given values of the columns before it.
use Rattle.std.specs.Prelude.{ℕ, ◌^◌, ◌==◌, nat_lt, ◌&&◌, ℤ, pos, negsuc, Bool, true, false, if◌then◌else◌, List, [], ◌++◌, Option, Some, None}
use Rattle.std.specs.List.{list_any, list_all}
use Rattle.std.specs.declared.cmp.Ordering.{Ordering}
use Rattle.std.specs.declared.cmp.Ordering.TheVariants.{Less, Greater}
use Rattle.mr_types.specs.declared.kind.Kind.{Kind}
use Rattle.mr_types.specs.declared.kind.Kind.TheVariants.{Int, IntUnsigned, BigInt, BigIntUnsigned, VarChar, VarBinary}
use Rattle.mr_types.specs.declared.kind.ColumnType.{ColumnType}
use Rattle.mr_types.specs.declared.value.Value.{Value}
use Rattle.mr_types.specs.declared.value.Value.TheVariants.{Null, Number, Text, Bytes}
use Rattle.mr_types.specs.declared.expr.Cmp.{Cmp}
use Rattle.mr_types.specs.declared.expr.Cmp.TheVariants.{Eq, Ne, Lt, Le, Gt, Ge}
use Rattle.mr_types.specs.Values.{is_null}
use Rattle.mr_spec.specs.declared.bound.Bound.{Bound, fold-Bound}
use Rattle.mr_spec.specs.declared.bound.Bound.TheOpen.{Bound-F, Compare, IsNull, Between, OneOf, Not, And, Or}
use Rattle.mr_spec.specs.Truth.{meets}
use Rattle.mr_memcmp.specs.Keys.{column_bytes}
use Rattle.mr_memcmp.specs.Parts.{cut}
use Rattle.mr_memcmp.specs.Above.{above_of}
use Rattle.mr_ranges.specs.declared.range.Range.{Range}
use Rattle.mr_ranges.specs.Ranges.{between, in_some}

-- ---- values that have bytes in a column

abbrev pub is_signed : ℕ → ℤ → Bool
is_signed half (pos n) = nat_lt n (2 ^ half)
is_signed half (negsuc n) = nat_lt n (2 ^ half)

abbrev pub is_unsigned : ℕ → ℤ → Bool
is_unsigned width (pos n) = nat_lt n (2 ^ width)
is_unsigned width (negsuc n) = false

abbrev pub is_number : Kind → ℤ → Bool
is_number Int z = is_signed 31 z
is_number IntUnsigned z = is_unsigned 32 z
is_number BigInt z = is_signed 63 z
is_number BigIntUnsigned z = is_unsigned 64 z
is_number (VarChar n collation) z = false
is_number (VarBinary n) z = false

abbrev pub holds_texts : Kind → Bool
holds_texts (VarChar n collation) = true
holds_texts _ = false

abbrev pub holds_bytes : Kind → Bool
holds_bytes (VarBinary n) = true
holds_bytes _ = false

-- NULL where the column takes it, else a value of its kind
abbrev pub fits_column : ColumnType → Value → Bool
fits_column column Null = column.nullable
fits_column column (Number z) = is_number column.kind z
fits_column column (Text text) = holds_texts column.kind
fits_column column (Bytes bytes) = holds_bytes column.kind

-- where a literal that has no bytes in a column stands, each value of the column but NULL has this order to it
abbrev pub side_of_number : Kind → ℤ → Ordering
side_of_number (VarChar n collation) z = Greater
side_of_number (VarBinary n) z = Greater
side_of_number _ (pos n) = Less
side_of_number _ (negsuc n) = Greater

abbrev pub side_of : Kind → Value → Ordering
side_of kind Null = Less
side_of kind (Number z) = side_of_number kind z
side_of kind (Text text) = if holds_bytes kind then Greater else Less
side_of kind (Bytes bytes) = Less

-- ---- ends of ranges

-- where the keys with a value begin
abbrev pub value_from : List ℕ → ColumnType → Value → List ℕ
value_from front column v = front ++ column_bytes column (cut column.kind v)

-- behind the keys with a value; None where nothing is
abbrev pub value_above : List ℕ → ColumnType → Value → Option (List ℕ)
value_above front column v = above_of (value_from front column v)

-- where the keys without NULL begin
abbrev pub floor : List ℕ → ColumnType → Option (List ℕ)
floor front column = if column.nullable then value_above front column Null else Some front

abbrev pub from_end : Option (List ℕ) → Option (List ℕ) → List Range
from_end None high = []
from_end (Some low) high = between low high

-- all that go on from the front
abbrev pub whole : List ℕ → List Range
whole front = between front (above_of front)

-- all of them but those with NULL
abbrev pub not_null : List ℕ → ColumnType → List Range
not_null front column = from_end (floor front column) (above_of front)

-- ---- tests

-- against a literal that has bytes in the column
abbrev pub cmp_ranges : List ℕ → ColumnType → Cmp → Value → List Range
cmp_ranges front column Eq v = between (value_from front column v) (value_above front column v)
cmp_ranges front column Ne v = whole front
cmp_ranges front column Lt v = from_end (floor front column) (Some (value_from front column v))
cmp_ranges front column Le v = from_end (floor front column) (value_above front column v)
cmp_ranges front column Gt v = from_end (value_above front column v) (above_of front)
cmp_ranges front column Ge v = between (value_from front column v) (above_of front)

abbrev pub is_not_equal : Cmp → Bool
is_not_equal Ne = true
is_not_equal _ = false

abbrev pub test_ranges : List ℕ → ColumnType → Cmp → Value → List Range
test_ranges front column cmp v = if is_not_equal cmp then whole front else (if is_null v then [] else (if fits_column column v then cmp_ranges front column cmp v else (if meets cmp (side_of column.kind v) then not_null front column else [])))

abbrev pub null_ranges : List ℕ → ColumnType → List Range
null_ranges front column = if column.nullable then between (value_from front column Null) (value_above front column Null) else []

-- ---- conditions

-- one layer, whose parts say theirs already: which keys a condition leaves, as far as it says something of the column
abbrev pub says_layer : List ℕ → ColumnType → ℕ → List ℕ → Bound-F Bool → Bool
says_layer front column p key (Compare i cmp v) = if i == p then in_some key (test_ranges front column cmp v) else in_some key (whole front)
says_layer front column p key (IsNull i) = if i == p then in_some key (null_ranges front column) else in_some key (whole front)
says_layer front column p key (Between i a b) = if i == p then in_some key (test_ranges front column Ge a) && in_some key (test_ranges front column Le b) else in_some key (whole front)
says_layer front column p key (OneOf i vs) = if i == p then list_any (λ v. in_some key (test_ranges front column Eq v)) vs else in_some key (whole front)
says_layer front column p key (Not b) = in_some key (whole front)
says_layer front column p key (And bs) = in_some key (whole front) && list_all (λ b. b) bs
says_layer front column p key (Or bs) = list_any (λ b. b) bs

abbrev pub says_of : List ℕ → ColumnType → ℕ → List ℕ → Bound → Bool
says_of front column p key e = fold-Bound Bool (says_layer front column p key) e

abbrev pub says : List ℕ → ColumnType → ℕ → List ℕ → Option Bound → Bool
says front column p key None = in_some key (whole front)
says front column p key (Some e) = says_of front column p key e
