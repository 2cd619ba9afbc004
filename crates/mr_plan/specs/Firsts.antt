-- The first test of a column in an AND of tests.
use Rattle.std.specs.Prelude.{ℕ, ◌==◌, ◌&&◌, Bool, true, if◌then◌else◌, List, [], ◌∷◌, Option, Some, None, unwrap_or}
use Rattle.mr_types.specs.declared.expr.Cmp.TheVariants.{Ge, Le}
use Rattle.mr_types.specs.declared.definition.TableDef.{TableDef}
use Rattle.mr_types.specs.declared.row.Row.{Row}
use Rattle.mr_spec.specs.declared.bound.Bound.{Bound, fold-Bound}
use Rattle.mr_spec.specs.declared.bound.Bound.TheOpen.{Bound-F, Compare, IsNull, Between, OneOf, Not, And, Or}
use Rattle.mr_spec.specs.Truth.{is_true}
use Rattle.mr_spec.specs.Binding.{test_at}
use Rattle.mr_plan.specs.Columns.{is_other}

abbrev pub first_told : List (Option Bool) → Option Bool
first_told [] = None
first_told (None ∷ bs) = first_told bs
first_told (Some b ∷ bs) = Some b

-- one layer, whose parts tell theirs already
abbrev pub first_layer : TableDef → ℕ → Row → Bound-F (Option Bool) → Option Bool
first_layer def p row (Compare i cmp v) = if i == p then (if is_other cmp then None else Some (is_true (test_at def row p cmp v))) else None
first_layer def p row (IsNull i) = None
first_layer def p row (Between i a b) = if i == p then Some (is_true (test_at def row p Ge a) && is_true (test_at def row p Le b)) else None
first_layer def p row (OneOf i vs) = None
first_layer def p row (Not b) = None
first_layer def p row (And bs) = first_told bs
first_layer def p row (Or bs) = None

-- Whether a row meets the first test in the text that compares the column at a place with a literal by `=`, `<`, `<=`, `>`,
-- `>=` or BETWEEN without NOT; None where an AND has no such test.
abbrev pub first_of : TableDef → ℕ → Row → Bound → Option Bool
first_of def p row e = fold-Bound (Option Bool) (first_layer def p row) e

-- it meets it, where there is one
abbrev pub meets_first : TableDef → ℕ → Row → Option Bound → Bool
meets_first def p row None = true
meets_first def p row (Some e) = unwrap_or (first_of def p row e) true
