-- What a condition says of one column.
use Rattle.std.specs.Prelude.{ℕ, ◌==◌, ◌&&◌, Bool, true, false, if◌then◌else◌, List, [], ◌∷◌, Option, Some, None}
use Rattle.std.specs.List.{list_any, list_all}
use Rattle.mr_types.specs.declared.value.Value.{Value}
use Rattle.mr_types.specs.declared.expr.Cmp.{Cmp}
use Rattle.mr_types.specs.declared.expr.Cmp.TheVariants.{Eq, Ne, Lt, Le, Gt, Ge}
use Rattle.mr_types.specs.declared.definition.TableDef.{TableDef}
use Rattle.mr_types.specs.declared.row.Row.{Row}
use Rattle.mr_types.specs.Values.{is_null}
use Rattle.mr_spec.specs.declared.bound.Bound.{Bound, fold-Bound}
use Rattle.mr_spec.specs.declared.bound.Bound.TheOpen.{Bound-F, Compare, IsNull, Between, OneOf, Not, And, Or}
use Rattle.mr_spec.specs.Rows.{value_at}
use Rattle.mr_spec.specs.Truth.{is_true}
use Rattle.mr_spec.specs.Binding.{test_at, bound_truth}

-- ---- on a row

-- of `<>` nothing is said
abbrev pub unless_other : Cmp → Bool → Bool
unless_other Eq b = b
unless_other Ne b = true
unless_other Lt b = b
unless_other Le b = b
unless_other Gt b = b
unless_other Ge b = b

-- one layer, whose parts say theirs already. Tests of other columns, `<>` and NOT say nothing.
abbrev pub said_layer : TableDef → ℕ → Row → Bound-F Bool → Bool
said_layer def p row (Compare i cmp v) = if i == p then unless_other cmp (is_true (test_at def row p cmp v)) else true
said_layer def p row (IsNull i) = if i == p then is_null (value_at row p) else true
said_layer def p row (Between i a b) = if i == p then is_true (test_at def row p Ge a) && is_true (test_at def row p Le b) else true
said_layer def p row (OneOf i vs) = if i == p then list_any (λ v. is_true (test_at def row p Eq v)) vs else true
said_layer def p row (Not b) = true
said_layer def p row (And bs) = list_all (λ b. b) bs
said_layer def p row (Or bs) = list_any (λ b. b) bs

-- the row meets what a condition says of the column at a place
abbrev pub said_of : TableDef → ℕ → Row → Bound → Bool
said_of def p row e = fold-Bound Bool (said_layer def p row) e

abbrev pub said : TableDef → ℕ → Row → Option Bound → Bool
said def p row None = true
said def p row (Some e) = said_of def p row e

-- the row's condition is true, where there is one
abbrev pub keeps : TableDef → Option Bound → Row → Bool
keeps def None row = true
keeps def (Some e) row = is_true (bound_truth def row e)

-- ---- values of `=`

abbrev pub if_equal : Cmp → Value → Option Value
if_equal Eq v = Some v
if_equal Ne v = None
if_equal Lt v = None
if_equal Le v = None
if_equal Gt v = None
if_equal Ge v = None

abbrev pub first_some : List (Option Value) → Option Value
first_some [] = None
first_some (None ∷ vs) = first_some vs
first_some (Some v ∷ vs) = Some v

abbrev pub fixed_layer : ℕ → Bound-F (Option Value) → Option Value
fixed_layer p (Compare i cmp v) = if i == p then if_equal cmp v else None
fixed_layer p (IsNull i) = None
fixed_layer p (Between i a b) = None
fixed_layer p (OneOf i vs) = None
fixed_layer p (Not v) = None
fixed_layer p (And vs) = first_some vs
fixed_layer p (Or vs) = None

-- the first literal in the text that the column at a place must be equal to, if the condition is to be true
abbrev pub fixed_of : ℕ → Bound → Option Value
fixed_of p e = fold-Bound (Option Value) (fixed_layer p) e

abbrev pub fixed : ℕ → Option Bound → Option Value
fixed p None = None
fixed p (Some e) = fixed_of p e

-- ---- whether something is said

abbrev pub is_other : Cmp → Bool
is_other Eq = false
is_other Ne = true
is_other Lt = false
is_other Le = false
is_other Gt = false
is_other Ge = false

abbrev pub narrows_layer : ℕ → Bound-F Bool → Bool
narrows_layer p (Compare i cmp v) = if is_other cmp then false else i == p
narrows_layer p (IsNull i) = i == p
narrows_layer p (Between i a b) = i == p
narrows_layer p (OneOf i vs) = i == p
narrows_layer p (Not b) = false
narrows_layer p (And bs) = list_any (λ b. b) bs
narrows_layer p (Or bs) = list_all (λ b. b) bs

-- the condition says something of the column at a place
abbrev pub narrows_of : ℕ → Bound → Bool
narrows_of p e = fold-Bound Bool (narrows_layer p) e

abbrev pub narrows : ℕ → Option Bound → Bool
narrows p None = false
narrows p (Some e) = narrows_of p e
