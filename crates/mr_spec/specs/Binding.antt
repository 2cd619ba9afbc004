-- A condition bound to a table: places in place of names, and literals in their columns' kinds.
use Rattle.std.specs.Prelude.{ℕ, List, [], ◌∷◌, map, Some, Result, Ok}
use Rattle.std.specs.Option.{option_map_or}
use Rattle.mr_types.specs.declared.value.Value.{Value}
use Rattle.mr_spec.specs.declared.truth.Truth.{Truth}
use Rattle.mr_spec.specs.declared.truth.Truth.TheVariants.{False}
use Rattle.mr_types.specs.declared.expr.Cmp.{Cmp}
use Rattle.mr_types.specs.declared.expr.Cmp.TheVariants.{Eq, Ge, Le}
use Rattle.mr_types.specs.declared.expr.Expr.{Expr, fold-Expr}
use Rattle.mr_types.specs.declared.expr.Expr.TheOpen as written
use Rattle.mr_spec.specs.declared.bound.Bound.{Bound, fold-Bound}
use Rattle.mr_spec.specs.declared.bound.Bound.TheVariants as bound
use Rattle.mr_spec.specs.declared.bound.Bound.TheOpen.{Bound-F, Compare, IsNull, Between, OneOf, Not, And, Or}
use Rattle.mr_types.specs.declared.definition.TableDef.{TableDef}
use Rattle.mr_types.specs.declared.row.Row.{Row}
use Rattle.mr_types.specs.Refusals.{◌>>◌}
use Rattle.mr_types.specs.Values.{is_null}
use Rattle.mr_spec.specs.Rows.{kind_at, value_at, place_of}
use Rattle.mr_spec.specs.Truth.{compared, literal_as, not_of, and_of, or_of, all_of, any_of, truth_of_test, where_of, known_columns, right_literals}

-- the place of a column that is there
abbrev pub place_or_first : TableDef → List ℕ → ℕ
place_or_first def name = option_map_or (λ i. i) (place_of def name) 0

-- a literal in the kind of the column of this name
abbrev pub literal_in : TableDef → List ℕ → Value → Value
literal_in def name v = literal_as (kind_at def (place_or_first def name)) v

-- one layer, whose parts are bound already
abbrev pub bound_layer : TableDef → written.Expr-F Bound → Bound
bound_layer def (written.Compare name cmp v) = bound.Compare (place_or_first def name) cmp (literal_in def name v)
bound_layer def (written.IsNull name) = bound.IsNull (place_or_first def name)
bound_layer def (written.Between name a b) = bound.Between (place_or_first def name) (literal_in def name a) (literal_in def name b)
bound_layer def (written.OneOf name vs) = bound.OneOf (place_or_first def name) (map (literal_in def name) vs)
bound_layer def (written.Not b) = bound.Not b
bound_layer def (written.And bs) = bound.And bs
bound_layer def (written.Or bs) = bound.Or bs

-- places in the place of names, each literal in its column's kind
abbrev pub bound_of : TableDef → Expr → Bound
bound_of def e = fold-Expr Bound (bound_layer def) e

-- the bound condition: 1054 where a column isn't there, else 1366 where a literal isn't converted
abbrev pub bind : TableDef → Expr → Result Bound ℕ
bind def e = do
  known_columns def (where_of (Some e))
  right_literals def (where_of (Some e))
  Ok (bound_of def e)

-- ---- its truth

-- the value at a place against a literal of its kind
abbrev pub test_at : TableDef → Row → ℕ → Cmp → Value → Truth
test_at def row i cmp v = compared (kind_at def i) (value_at row i) cmp v

-- IN at a place
abbrev pub one_at : TableDef → Row → ℕ → List Value → Truth
one_at def row i [] = False
one_at def row i (v ∷ vs) = or_of (test_at def row i Eq v) (one_at def row i vs)

-- one layer, whose parts have their truths already
abbrev pub bound_truth_layer : TableDef → Row → Bound-F Truth → Truth
bound_truth_layer def row (Compare i cmp v) = test_at def row i cmp v
bound_truth_layer def row (IsNull i) = truth_of_test (is_null (value_at row i))
bound_truth_layer def row (Between i a b) = and_of (test_at def row i Ge a) (test_at def row i Le b)
bound_truth_layer def row (OneOf i vs) = one_at def row i vs
bound_truth_layer def row (Not t) = not_of t
bound_truth_layer def row (And ts) = all_of ts
bound_truth_layer def row (Or ts) = any_of ts

-- the truth of a bound condition on a row
abbrev pub bound_truth : TableDef → Row → Bound → Truth
bound_truth def row b = fold-Bound Truth (bound_truth_layer def row) b
