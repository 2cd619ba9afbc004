-- Rows of a table: its columns, the order of its keys, expiry, and what a change does to a list of rows.
use Rattle.std.specs.Prelude.{ℕ, ◌+◌, Bool, false, not, ◌||◌, ◌&&◌, if◌then◌else◌, List, [], ◌∷◌, Option, Some, None, slice_get, unwrap_or, filter}
use Rattle.std.specs.List.{list_any}
use Rattle.std.specs.Option.{option_map_or}
use Rattle.std.specs.Ordering.{is_eq, is_lt, ordering_then, nat_cmp}
use Rattle.std.specs.declared.cmp.Ordering.{Ordering}
use Rattle.std.specs.declared.cmp.Ordering.TheVariants.{Equal}
use Rattle.mr_types.specs.declared.value.Value.{Value}
use Rattle.mr_types.specs.declared.value.Value.TheVariants.{Null}
use Rattle.mr_types.specs.declared.kind.Kind.{Kind}
use Rattle.mr_types.specs.declared.kind.Kind.TheVariants as kinds
use Rattle.mr_types.specs.declared.definition.ColumnDef.{ColumnDef}
use Rattle.mr_types.specs.declared.definition.IndexDef.{IndexDef}
use Rattle.mr_types.specs.declared.definition.TableDef.{TableDef}
use Rattle.mr_types.specs.declared.definition.Ttl.{Ttl}
use Rattle.mr_types.specs.declared.row.Row.{Row}
use Rattle.mr_types.specs.declared.row.Change.{Change}
use Rattle.mr_types.specs.declared.row.Change.TheVariants.{Insert, Update, Delete}
use Rattle.mr_types.specs.Expiry.{is_expired}
use Rattle.mr_types.specs.Values.{same_name, is_null}
use Rattle.mr_types.specs.Order.{value_cmp}

-- ---- columns

-- the place of a column by its name, counted from a number
abbrev pub place_from : ℕ → List ℕ → List ColumnDef → Option ℕ
place_from n name [] = None
place_from n name (c ∷ cs) = if same_name c.name name then Some n else place_from (n + 1) name cs

-- the place of a table's column, None where it has none of this name
abbrev pub place_of : TableDef → List ℕ → Option ℕ
place_of def name = place_from 0 name def.columns

-- the kind of the column at a place
abbrev pub kind_at : TableDef → ℕ → Kind
kind_at def i = option_map_or (λ c. c.ty.kind) (slice_get def.columns i) kinds.Int

-- the row's value at a place
abbrev pub value_at : Row → ℕ → Value
value_at row i = unwrap_or (slice_get row.fields i) Null

-- ---- keys

-- the order of two rows by the values in these columns, one after the other
abbrev pub columns_cmp : TableDef → List ℕ → Row → Row → Ordering
columns_cmp def [] r s = Equal
columns_cmp def (i ∷ is) r s = ordering_then (value_cmp (kind_at def i) (value_at r i) (value_at s i)) (columns_cmp def is r s)

-- by the primary key, which is the hidden number where it has no columns
abbrev pub primary_cmp : TableDef → Row → Row → Ordering
primary_cmp def r s = ordering_then (columns_cmp def def.primary.columns r s) (nat_cmp (unwrap_or r.hidden 0) (unwrap_or s.hidden 0))

-- the same primary key
abbrev pub same_primary : TableDef → Row → Row → Bool
same_primary def r s = is_eq (primary_cmp def r s)

-- NULL stands in one of these columns
abbrev pub has_null : Row → List ℕ → Bool
has_null row places = list_any (λ i. is_null (value_at row i)) places

-- the same values, without NULL, in a unique key
abbrev pub same_unique : TableDef → Row → Row → IndexDef → Bool
same_unique def r s key = key.unique && (not (has_null r key.columns) && is_eq (columns_cmp def key.columns r s))

-- the same values in the primary key or, without NULL, in a unique key
abbrev pub clashes : TableDef → Row → Row → Bool
clashes def r s = same_primary def r s || list_any (same_unique def r s) def.secondary

-- ---- expiry

-- a row with this stamp is expired at a moment
abbrev pub is_gone : Option Ttl → Option ℕ → ℕ → Bool
is_gone (Some ttl) (Some stamp) moment = is_expired stamp ttl.duration moment
is_gone _ _ moment = false

-- statements see the row at a moment
abbrev pub is_visible : TableDef → ℕ → Row → Bool
is_visible def moment row = not (is_gone def.ttl row.stamp moment)

-- the rows that statements see at a moment
abbrev pub visible : TableDef → ℕ → List Row → List Row
visible def moment rows = filter (is_visible def moment) rows

-- ---- changes

-- the rows with one more, in primary-key order
abbrev pub placed : TableDef → Row → List Row → List Row
placed def row [] = row ∷ []
placed def row (r ∷ rs) = if is_lt (primary_cmp def row r) then row ∷ r ∷ rs else r ∷ placed def row rs

-- the rows without any that has the key of this one
abbrev pub without : TableDef → Row → List Row → List Row
without def row rows = filter (λ r. not (same_primary def row r)) rows

-- the rows with this one in the place of any that has its key
abbrev pub put : TableDef → Row → List Row → List Row
put def row rows = placed def row (without def row rows)

-- the rows after a change of their table
abbrev pub rows_after : TableDef → List Row → Change → List Row
rows_after def rows (Insert table new) = put def new rows
rows_after def rows (Update table old new) = put def new (without def old rows)
rows_after def rows (Delete table old) = without def old rows

-- the table that a change is of
abbrev pub table_name : Change → List ℕ
table_name (Insert table new) = table
table_name (Update table old new) = table
table_name (Delete table old) = table

-- the old and the new row of a change
abbrev pub rows_of : Change → List Row
rows_of (Insert table new) = new ∷ []
rows_of (Update table old new) = old ∷ new ∷ []
rows_of (Delete table old) = old ∷ []
