-- What a SELECT holds of the rows that it has seen.
use Rattle.std.specs.Prelude.{◌≡◌, ◌<◌, ℕ, ◌+◌, ◌+ℤ◌, ◌^◌, pos, true, false, if◌then◌else◌, List, [], ◌∷◌, take, fold, Option, Some, None}
use Rattle.std.specs.Option.{SomeIff}
use Rattle.std.specs.Ordering.{is_lt}
use Rattle.std.specs.declared.cmp.Ordering.{Ordering}
use Rattle.mr_types.specs.declared.value.Value.{Value}
use Rattle.mr_types.specs.declared.value.Value.TheVariants.{Null, Number}
use Rattle.mr_types.specs.declared.definition.TableDef.{TableDef}
use Rattle.mr_types.specs.declared.row.Row.{Row}
use Rattle.mr_types.specs.Values.{is_null}
use Rattle.mr_spec.specs.Rows.{value_at}
use Rattle.mr_spec.specs.Select.{sorted}
use Rattle.mr_bound.specs.declared.bound.BoundOrder.{BoundOrder}
use Rattle.mr_bound.specs.declared.bound.BoundAggregate.{BoundAggregate}
use Rattle.mr_bound.specs.declared.bound.BoundAggregate.TheVariants as aggregate
use Rattle.mr_bound.specs.BoundSelects.{reply_by}
use Rattle.mr_exec.specs.declared.found.Found.{Found}
use Rattle.mr_exec.specs.declared.found.Found.TheVariants.{Count, First}

-- ---- rows

-- rows that stand for those seen: all of them, or some of which so many are the first in order
abbrev pub StandsFor : (Row → Row → Ordering) → Option ℕ → List Row → List Row → Type 0
StandsFor cmp None held seen = held ≡ seen
StandsFor cmp (Some most) held seen = take most (sorted cmp held) ≡ take most (sorted cmp seen)

-- how many rows in front a LIMIT looks at; all of them also where their number has no 64 bits
abbrev pub IsReach : ℕ → Option ℕ → Option ℕ → Type 0
IsReach skip None reach = reach ≡ None
IsReach skip (Some most) reach = SomeIff reach (skip + most < 2 ^ 64) (skip + most)

-- ---- aggregates

-- before there is a row; MIN and MAX are the first by an order
abbrev pub found_none : BoundAggregate → Found
found_none aggregate.Count = Count (pos 0)
found_none (aggregate.Min i) = First (record { column = i; descending = false }) None
found_none (aggregate.Max i) = First (record { column = i; descending = true }) None

-- the first of a row and one before it, where there is one
abbrev pub first_of : (Row → Row → Ordering) → Option Row → Row → Row
first_of cmp None r = r
first_of cmp (Some best) r = if is_lt (cmp r best) then r else best

-- with one more row, unless its value is NULL
abbrev pub first_with : TableDef → BoundOrder → Option Row → Row → Option Row
first_with def order best r = if is_null (value_at r order.column) then best else Some (first_of (reply_by def (order ∷ [])) best r)

abbrev pub found_with : TableDef → Found → Row → Found
found_with def (Count n) r = Count (n +ℤ pos 1)
found_with def (First order best) r = First order (first_with def order best r)

-- what an aggregate finds in rows, one after another
abbrev pub found_in : TableDef → List Row → BoundAggregate → Found
found_in def rows a = fold (found_with def) (found_none a) rows

-- the row's value, NULL where there is none
abbrev pub first_value : ℕ → Option Row → Value
first_value i None = Null
first_value i (Some r) = value_at r i

abbrev pub value_found : Found → Value
value_found (Count n) = Number n
value_found (First order best) = first_value order.column best
