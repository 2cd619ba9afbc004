-- The ranges of one test are in order.
use Rattle.std.proofs.Common.{ℕ, Bool, true, false, List, [], Option, Some, None}
use Rattle.std.specs.Prelude.{if◌then◌else◌}
use Rattle.mr_types.specs.declared.kind.ColumnType.{ColumnType}
use Rattle.mr_types.specs.declared.value.Value.{Value}
use Rattle.mr_types.specs.declared.value.Value.TheVariants.{Null}
use Rattle.mr_types.specs.declared.expr.Cmp.{Cmp}
use Rattle.mr_types.specs.declared.expr.Cmp.TheVariants.{Eq, Ne, Lt, Le, Gt, Ge}
use Rattle.mr_types.specs.Values.{is_null}
use Rattle.mr_spec.specs.Truth.{meets}
use Rattle.mr_memcmp.specs.Above.{above_of}
use Rattle.mr_ranges.specs.declared.range.Range.{Range}
use Rattle.mr_ranges.specs.Ranges.{AreApart, between}
use Rattle.mr_ranges.proofs.Common.{between_apart}
use Rattle.mr_plan.specs.Tests.{fits_column, side_of, value_from, value_above, floor, from_end, whole, not_null, cmp_ranges, test_ranges, is_not_equal, null_ranges}

one-or-other : (b : Bool) (xs ys : List Range) → AreApart xs → AreApart ys → AreApart (if b then xs else ys)
one-or-other true xs ys h k = h
one-or-other false xs ys h k = k

pub whole-apart : (front : List ℕ) → AreApart (whole front)
whole-apart front = between_apart front (above_of front)

from-apart : (low high : Option (List ℕ)) → AreApart (from_end low high)
from-apart None high = tt
from-apart (Some low) high = between_apart low high

cmp-apart : (front : List ℕ) (column : ColumnType) (cmp : Cmp) (v : Value) → AreApart (cmp_ranges front column cmp v)
cmp-apart front column Eq v = between_apart (value_from front column v) (value_above front column v)
cmp-apart front column Ne v = whole-apart front
cmp-apart front column Lt v = from-apart (floor front column) (Some (value_from front column v))
cmp-apart front column Le v = from-apart (floor front column) (value_above front column v)
cmp-apart front column Gt v = from-apart (value_above front column v) (above_of front)
cmp-apart front column Ge v = between_apart (value_from front column v) (above_of front)

pub test-apart : (front : List ℕ) (column : ColumnType) (cmp : Cmp) (v : Value) → AreApart (test_ranges front column cmp v)
test-apart front column cmp v =
    one-or-other (is_not_equal cmp) (whole front) _ (whole-apart front)
    (one-or-other (is_null v) [] _ tt
    (one-or-other (fits_column column v) (cmp_ranges front column cmp v) _ (cmp-apart front column cmp v)
    (one-or-other (meets cmp (side_of column.kind v)) (not_null front column) [] (from-apart (floor front column) (above_of front)) tt)))

pub null-apart : (front : List ℕ) (column : ColumnType) → AreApart (null_ranges front column)
null-apart front column = one-or-other column.nullable (between (value_from front column Null) (value_above front column Null)) [] (between_apart (value_from front column Null) (value_above front column Null)) tt
