-- The truth of a condition on a row.
use Rattle.std.specs.Prelude.{ℕ, Bool, true, false, if◌then◌else◌, List, [], ◌∷◌, ◌++◌, Option, Some, None, Result, ⊤, is_none, is_err}
use Rattle.std.specs.List.{list_any}
use Rattle.std.specs.Result.{result_unwrap_or}
use Rattle.std.specs.Option.{option_map_or}
use Rattle.std.specs.Ordering.{is_eq, is_ne, is_lt, is_le, is_gt, is_ge}
use Rattle.std.specs.declared.cmp.Ordering.{Ordering}
use Rattle.mr_types.specs.declared.value.Value.{Value}
use Rattle.mr_types.specs.declared.value.Value.TheVariants.{Null}
use Rattle.mr_types.specs.declared.kind.Kind.{Kind}
use Rattle.mr_spec.specs.declared.truth.Truth.{Truth}
use Rattle.mr_spec.specs.declared.truth.Truth.TheVariants.{True, False, Unknown}
use Rattle.mr_types.specs.declared.expr.Cmp.{Cmp}
use Rattle.mr_types.specs.declared.expr.Cmp.TheVariants.{Eq, Ne, Lt, Le, Gt, Ge}
use Rattle.mr_types.specs.declared.expr.Expr.{Expr, fold-Expr}
use Rattle.mr_types.specs.declared.expr.Expr.TheOpen.{Expr-F, Compare, IsNull, Between, OneOf, Not, And, Or}
use Rattle.mr_types.specs.declared.definition.TableDef.{TableDef}
use Rattle.mr_types.specs.declared.row.Row.{Row}
use Rattle.mr_types.specs.Refusals.{refuse_where}
use Rattle.mr_types.specs.Values.{is_null, convert_to}
use Rattle.mr_types.specs.Order.{value_cmp}
use Rattle.mr_spec.specs.Rows.{place_of, kind_at, value_at}

-- a test that is true or false
abbrev pub truth_of_test : Bool → Truth
truth_of_test true = True
truth_of_test false = False

-- NOT: unknown stays
abbrev pub not_of : Truth → Truth
not_of True = False
not_of False = True
not_of Unknown = Unknown

-- AND: false where a part is false, else unknown where a part is
abbrev pub and_of : Truth → Truth → Truth
and_of False t = False
and_of True t = t
and_of Unknown False = False
and_of Unknown True = Unknown
and_of Unknown Unknown = Unknown

-- OR: true where a part is true, else unknown where a part is
abbrev pub or_of : Truth → Truth → Truth
or_of True t = True
or_of False t = t
or_of Unknown True = True
or_of Unknown False = Unknown
or_of Unknown Unknown = Unknown

-- AND of all
abbrev pub all_of : List Truth → Truth
all_of [] = True
all_of (t ∷ ts) = and_of t (all_of ts)

-- OR of all
abbrev pub any_of : List Truth → Truth
any_of [] = False
any_of (t ∷ ts) = or_of t (any_of ts)

-- the comparison holds of values in this order
abbrev pub meets : Cmp → Ordering → Bool
meets Eq o = is_eq o
meets Ne o = is_ne o
meets Lt o = is_lt o
meets Le o = is_le o
meets Gt o = is_gt o
meets Ge o = is_ge o

-- a value against a literal of its kind; unknown where one of them is NULL
abbrev pub compared : Kind → Value → Cmp → Value → Truth
compared kind v cmp literal = if is_null v then Unknown else (if is_null literal then Unknown else truth_of_test (meets cmp (value_cmp kind v literal)))

-- a column's kind, and its value in a row
pub record Field : Type 0 where
  pub kind : Kind
  pub value : Value

-- the column of this name in a row; a name that is no column never comes here
abbrev pub field_of : TableDef → Row → List ℕ → Field
field_of def row name = let i = option_map_or (λ n. n) (place_of def name) 0 in record { kind = kind_at def i; value = value_at row i }

-- a literal in a column's kind; one that has none never comes here
abbrev pub literal_as : Kind → Value → Value
literal_as kind literal = result_unwrap_or (convert_to kind literal) Null

-- a column against a literal
abbrev pub test_of : Field → Cmp → Value → Truth
test_of f cmp literal = compared f.kind f.value cmp (literal_as f.kind literal)

-- IN: true where a member is the same, else unknown where a member or the column is NULL
abbrev pub one_of : Field → List Value → Truth
one_of f [] = False
one_of f (v ∷ vs) = or_of (test_of f Eq v) (one_of f vs)

-- one layer of a condition, whose parts have their truths already
abbrev pub layer_of : TableDef → Row → Expr-F Truth → Truth
layer_of def row (Compare name cmp v) = test_of (field_of def row name) cmp v
layer_of def row (IsNull name) = truth_of_test (is_null (field_of def row name).value)
layer_of def row (Between name a b) = and_of (test_of (field_of def row name) Ge a) (test_of (field_of def row name) Le b)
layer_of def row (OneOf name vs) = one_of (field_of def row name) vs
layer_of def row (Not t) = not_of t
layer_of def row (And ts) = all_of ts
layer_of def row (Or ts) = any_of ts

-- the truth of a condition on a row
abbrev pub truth_of : TableDef → Row → Expr → Truth
truth_of def row e = fold-Expr Truth (layer_of def row) e

-- neither false nor unknown
abbrev pub is_true : Truth → Bool
is_true True = true
is_true False = false
is_true Unknown = false

-- ---- the refusals of a condition

-- a column that a condition names, with the literals beside it
pub record Named : Type 0 where
  pub column : List ℕ
  pub literals : List Value

-- lists, one after the other
abbrev pub joined : List (List Named) → List Named
joined [] = []
joined (x ∷ xs) = x ++ joined xs

-- the columns that one layer names, whose parts have theirs already
abbrev pub layer_names : Expr-F (List Named) → List Named
layer_names (Compare name cmp v) = record { column = name; literals = v ∷ [] } ∷ []
layer_names (IsNull name) = record { column = name; literals = [] } ∷ []
layer_names (Between name a b) = record { column = name; literals = a ∷ b ∷ [] } ∷ []
layer_names (OneOf name vs) = record { column = name; literals = vs } ∷ []
layer_names (Not ns) = ns
layer_names (And nss) = joined nss
layer_names (Or nss) = joined nss

-- ---- WHERE

-- a condition as a statement uses it: the rows that it keeps, and the columns that it names
pub record Where : Type 0 where
  pub keeps : TableDef → Row → Bool
  pub named : List Named

-- the condition behind WHERE, or none
abbrev pub where_of : Option Expr → Where
where_of None = record { keeps = λ def row. true; named = [] }
where_of (Some e) = record { keeps = λ def row. is_true (truth_of def row e); named = fold-Expr (List Named) layer_names e }

-- the table has no column of this name
abbrev pub is_unknown : TableDef → List ℕ → Bool
is_unknown def name = is_none (place_of def name)

-- a literal has no value of its column's kind
abbrev pub has_wrong_literal : TableDef → Named → Bool
has_wrong_literal def n = option_map_or (λ i. list_any (λ v. is_err (convert_to (kind_at def i) v)) n.literals) (place_of def n.column) false

-- 1054 where a column isn't there
abbrev pub known_columns : TableDef → Where → Result ⊤ ℕ
known_columns def c = refuse_where 1054 (list_any (λ n. is_unknown def n.column) c.named)

-- 1366 where a literal isn't converted
abbrev pub right_literals : TableDef → Where → Result ⊤ ℕ
right_literals def c = refuse_where 1366 (list_any (has_wrong_literal def) c.named)
