-- A SELECT bound to a table, and what it gives of rows that come in any order.
use Rattle.std.specs.Prelude.{ℕ, pos, Bool, true, if◌then◌else◌, List, [], ◌∷◌, length, map, filter, Option, Some, None, Result, Ok}
use Rattle.std.specs.List.{list_any}
use Rattle.std.specs.Ordering.{is_lt, is_gt, ordering_then, ordering_reverse}
use Rattle.std.specs.declared.cmp.Ordering.{Ordering}
use Rattle.std.specs.declared.cmp.Ordering.TheVariants.{Equal}
use Rattle.mr_types.specs.declared.value.Value.{Value}
use Rattle.mr_types.specs.declared.value.Value.TheVariants.{Number}
use Rattle.mr_types.specs.declared.definition.TableDef.{TableDef}
use Rattle.mr_types.specs.declared.row.Row.{Row}
use Rattle.mr_types.specs.declared.expr.Expr.{Expr}
use Rattle.mr_types.specs.declared.statement.Select.{Select}
use Rattle.mr_types.specs.declared.statement.OrderItem.{OrderItem}
use Rattle.mr_types.specs.declared.statement.Columns.{Columns}
use Rattle.mr_types.specs.declared.statement.Columns.TheVariants.{All, Names, Aggregates}
use Rattle.mr_types.specs.declared.statement.Aggregate.{Aggregate}
use Rattle.mr_types.specs.declared.statement.Aggregate.TheVariants.{Count, Min, Max}
use Rattle.mr_types.specs.Refusals.{◌>>=◌, ◌>>◌, refuse_where}
use Rattle.mr_types.specs.Order.{value_cmp}
use Rattle.mr_spec.specs.declared.bound.Bound.{Bound}
use Rattle.mr_spec.specs.Rows.{kind_at, value_at, primary_cmp}
use Rattle.mr_spec.specs.Truth.{where_of, is_true, is_unknown, known_columns, right_literals}
use Rattle.mr_spec.specs.Binding.{place_or_first, bound_of, bound_truth}
use Rattle.mr_spec.specs.Select.{places, all_places, listed, values_of, first_by, sorted, limited, has_unknown}
use Rattle.mr_bound.specs.declared.bound.BoundSelect.{BoundSelect}
use Rattle.mr_bound.specs.declared.bound.BoundOrder.{BoundOrder}
use Rattle.mr_bound.specs.declared.bound.BoundColumns.{BoundColumns}
use Rattle.mr_bound.specs.declared.bound.BoundColumns.TheVariants as columns
use Rattle.mr_bound.specs.declared.bound.BoundAggregate.{BoundAggregate}
use Rattle.mr_bound.specs.declared.bound.BoundAggregate.TheVariants as aggregate

-- ---- places in the place of names

abbrev pub aggregate_at : TableDef → Aggregate → BoundAggregate
aggregate_at def Count = aggregate.Count
aggregate_at def (Min name) = aggregate.Min (place_or_first def name)
aggregate_at def (Max name) = aggregate.Max (place_or_first def name)

abbrev pub columns_at : TableDef → Columns → BoundColumns
columns_at def All = columns.Places (all_places def)
columns_at def (Names names) = columns.Places (places def names)
columns_at def (Aggregates list) = columns.Aggregates (map (aggregate_at def) list)

abbrev pub order_at : TableDef → OrderItem → BoundOrder
order_at def item = record { column = place_or_first def item.column; descending = item.descending }

abbrev pub condition_at : TableDef → Option Expr → Option Bound
condition_at def None = None
condition_at def (Some e) = Some (bound_of def e)

-- WHERE, or 1366 where a literal isn't converted
abbrev pub converted_condition : TableDef → Option Expr → Result (Option Bound) ℕ
converted_condition def c = right_literals def (where_of c) >> Ok (condition_at def c)

-- 1054 for the list, WHERE and ORDER BY, then 1366 for a literal in WHERE
abbrev pub bind_select : TableDef → Select → Result BoundSelect ℕ
bind_select def s = do
  refuse_where 1054 (has_unknown def s.columns)
  known_columns def (where_of s.condition)
  refuse_where 1054 (list_any (λ o. is_unknown def o.column) s.order)
  condition ← converted_condition def s.condition
  Ok (record { columns = columns_at def s.columns; condition = condition; order = map (order_at def) s.order; skip = s.skip; most = s.most })

-- ---- what it gives

-- the rows that a bound condition keeps
abbrev pub keeps : TableDef → Option Bound → Row → Bool
keeps def None row = true
keeps def (Some b) row = is_true (bound_truth def row b)

-- by the columns of ORDER BY, one after the other
abbrev pub order_by : TableDef → List BoundOrder → Row → Row → Ordering
order_by def [] r s = Equal
order_by def (o ∷ os) r s =
    let found = value_cmp (kind_at def o.column) (value_at r o.column) (value_at s o.column) in
    ordering_then (if o.descending then ordering_reverse found else found) (order_by def os r s)

-- by ORDER BY, and by the primary key or the hidden number where that ties
abbrev pub reply_by : TableDef → List BoundOrder → Row → Row → Ordering
reply_by def order r s = ordering_then (order_by def order r s) (primary_cmp def r s)

-- COUNT(*), or the first least or greatest value, NULL where there is none
abbrev pub aggregate_of : TableDef → List Row → BoundAggregate → Value
aggregate_of def rows aggregate.Count = Number (pos (length rows))
aggregate_of def rows (aggregate.Min i) = first_by (λ a b. is_lt (value_cmp (kind_at def i) a b)) (values_of i rows)
aggregate_of def rows (aggregate.Max i) = first_by (λ a b. is_gt (value_cmp (kind_at def i) a b)) (values_of i rows)

-- the listed columns of the rows, or one row of aggregates over all rows that were kept
abbrev pub shown_at : TableDef → BoundColumns → List Row → List Row → List (List Value)
shown_at def (columns.Places at) kept limited_rows = map (listed at) limited_rows
shown_at def (columns.Aggregates list) kept limited_rows = map (aggregate_of def kept) list ∷ []

-- the rows in the order of their primary keys, or of their hidden numbers
abbrev pub by_key : TableDef → List Row → List Row
by_key def rows = sorted (primary_cmp def) rows

-- what a bound SELECT gives of visible rows that come in any order
abbrev pub selected_at : TableDef → BoundSelect → List Row → List (List Value)
selected_at def s rows =
    let kept = filter (keeps def s.condition) (by_key def rows) in
    shown_at def s.columns kept (limited s.skip s.most (sorted (order_by def s.order) kept))
