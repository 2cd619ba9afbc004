-- The truth of a condition, and the columns that it names, form by form.
use Rattle.std.proofs.Common.{◌≡◌, ℕ, List, [], ◌∷◌, ◌++◌, map, Some, ap, sym, ◌∙◌}
use Rattle.mr_types.specs.declared.value.Value.{Value}
use Rattle.mr_spec.specs.declared.truth.Truth.{Truth}
use Rattle.mr_spec.specs.declared.truth.Truth.TheVariants.{False}
use Rattle.mr_types.specs.Values.{is_null}
use Rattle.mr_types.specs.declared.expr.Cmp.{Cmp}
use Rattle.mr_types.specs.declared.expr.Cmp.TheVariants.{Ge, Le}
use Rattle.mr_types.specs.declared.expr.Expr.{Expr}
use Rattle.mr_types.specs.declared.expr.Expr.TheFolds.{fold-Expr, fold-roll-Expr}
use Rattle.mr_types.specs.declared.expr.Expr.TheVariants.{rolls-Compare, rolls-IsNull, rolls-Between, rolls-OneOf, rolls-Not, rolls-Or}
use Rattle.mr_types.specs.declared.expr.Expr.TheVariants as expr
use Rattle.mr_types.specs.declared.expr.Expr.TheOpen.{Compare, IsNull, Between, OneOf, Not, Or}
use Rattle.mr_types.specs.declared.definition.TableDef.{TableDef}
use Rattle.mr_types.specs.declared.row.Row.{Row}
use Rattle.mr_spec.specs.Truth.{truth_of, layer_of, layer_names, Named, where_of, is_true, test_of, field_of, not_of, and_of, or_of, any_of, one_of, joined, truth_of_test}

pub truth-compare : (def : TableDef) (row : Row) (n : List ℕ) (c : Cmp) (v : Value) → truth_of def row (expr.Compare n c v) ≡ test_of (field_of def row n) c v
truth-compare def row n c v = ap (fold-Expr Truth (layer_of def row)) (sym (rolls-Compare n c v)) ∙ fold-roll-Expr Truth (layer_of def row) (Compare n c v)

pub truth-not : (def : TableDef) (row : Row) (e : Expr) → truth_of def row (expr.Not e) ≡ not_of (truth_of def row e)
truth-not def row e = ap (fold-Expr Truth (layer_of def row)) (sym (rolls-Not e)) ∙ fold-roll-Expr Truth (layer_of def row) (Not e)

pub named-compare : (n : List ℕ) (c : Cmp) (v : Value) → fold-Expr (List Named) layer_names (expr.Compare n c v) ≡ layer_names (Compare n c v)
named-compare n c v = ap (fold-Expr (List Named) layer_names) (sym (rolls-Compare n c v)) ∙ fold-roll-Expr (List Named) layer_names (Compare n c v)

pub named-not : (e : Expr) → fold-Expr (List Named) layer_names (expr.Not e) ≡ fold-Expr (List Named) layer_names e
named-not e = ap (fold-Expr (List Named) layer_names) (sym (rolls-Not e)) ∙ fold-roll-Expr (List Named) layer_names (Not e)

-- WHERE of one comparison
pub where-compare : (n : List ℕ) (c : Cmp) (v : Value) →
    where_of (Some (expr.Compare n c v)) ≡ record { keeps = λ def row. is_true (test_of (field_of def row n) c v); named = layer_names (Compare n c v) }
where-compare n c v = λ i. record { keeps = λ def row. is_true (truth-compare def row n c v i); named = named-compare n c v i }

pub truth-null : (def : TableDef) (row : Row) (n : List ℕ) → truth_of def row (expr.IsNull n) ≡ truth_of_test (is_null (field_of def row n).value)
truth-null def row n = ap (fold-Expr Truth (layer_of def row)) (sym (rolls-IsNull n)) ∙ fold-roll-Expr Truth (layer_of def row) (IsNull n)

pub truth-between : (def : TableDef) (row : Row) (n : List ℕ) (a b : Value) → truth_of def row (expr.Between n a b) ≡ and_of (test_of (field_of def row n) Ge a) (test_of (field_of def row n) Le b)
truth-between def row n a b = ap (fold-Expr Truth (layer_of def row)) (sym (rolls-Between n a b)) ∙ fold-roll-Expr Truth (layer_of def row) (Between n a b)

pub truth-in : (def : TableDef) (row : Row) (n : List ℕ) (vs : List Value) → truth_of def row (expr.OneOf n vs) ≡ one_of (field_of def row n) vs
truth-in def row n vs = ap (fold-Expr Truth (layer_of def row)) (sym (rolls-OneOf n vs)) ∙ fold-roll-Expr Truth (layer_of def row) (OneOf n vs)

pub truth-or : (def : TableDef) (row : Row) (es : List Expr) → truth_of def row (expr.Or es) ≡ any_of (map (truth_of def row) es)
truth-or def row es = ap (fold-Expr Truth (layer_of def row)) (sym (rolls-Or es)) ∙ fold-roll-Expr Truth (layer_of def row) (Or es)

pub named-null : (n : List ℕ) → fold-Expr (List Named) layer_names (expr.IsNull n) ≡ layer_names (IsNull n)
named-null n = ap (fold-Expr (List Named) layer_names) (sym (rolls-IsNull n)) ∙ fold-roll-Expr (List Named) layer_names (IsNull n)

pub named-between : (n : List ℕ) (a b : Value) → fold-Expr (List Named) layer_names (expr.Between n a b) ≡ layer_names (Between n a b)
named-between n a b = ap (fold-Expr (List Named) layer_names) (sym (rolls-Between n a b)) ∙ fold-roll-Expr (List Named) layer_names (Between n a b)

pub named-in : (n : List ℕ) (vs : List Value) → fold-Expr (List Named) layer_names (expr.OneOf n vs) ≡ layer_names (OneOf n vs)
named-in n vs = ap (fold-Expr (List Named) layer_names) (sym (rolls-OneOf n vs)) ∙ fold-roll-Expr (List Named) layer_names (OneOf n vs)

pub named-or : (es : List Expr) → fold-Expr (List Named) layer_names (expr.Or es) ≡ joined (map (fold-Expr (List Named) layer_names) es)
named-or es = ap (fold-Expr (List Named) layer_names) (sym (rolls-Or es)) ∙ fold-roll-Expr (List Named) layer_names (Or es)

-- WHERE of one NOT IN
pub where-not-in : (n : List ℕ) (vs : List Value) →
    where_of (Some (expr.Not (expr.OneOf n vs))) ≡ record { keeps = λ def row. is_true (not_of (one_of (field_of def row n) vs)); named = layer_names (OneOf n vs) }
where-not-in n vs = λ i. record {
  keeps = λ def row. is_true ((truth-not def row (expr.OneOf n vs) ∙ ap not_of (truth-in def row n vs)) i);
  named = (named-not (expr.OneOf n vs) ∙ named-in n vs) i;
}

-- the truth of BETWEEN, on a row
abbrev pub is_between : List ℕ → Value → Value → TableDef → Row → Truth
is_between n a b def row = and_of (test_of (field_of def row n) Ge a) (test_of (field_of def row n) Le b)

-- and of IS NULL
abbrev pub is_null_in : List ℕ → TableDef → Row → Truth
is_null_in n def row = truth_of_test (is_null (field_of def row n).value)

-- WHERE of BETWEEN or IS NULL
pub where-between-or-null : (n : List ℕ) (a b : Value) →
    where_of (Some (expr.Or (expr.Between n a b ∷ expr.IsNull n ∷ []))) ≡ record {
      keeps = λ def row. is_true (or_of (is_between n a b def row) (or_of (is_null_in n def row) False));
      named = layer_names (Between n a b) ++ (layer_names (IsNull n) ++ []);
    }
where-between-or-null n a b = λ i. record {
  keeps = λ def row. is_true ((truth-or def row (expr.Between n a b ∷ expr.IsNull n ∷ [])
      ∙ ap (λ x. or_of x (or_of (truth_of def row (expr.IsNull n)) False)) (truth-between def row n a b)
      ∙ ap (λ x. or_of (is_between n a b def row) (or_of x False)) (truth-null def row n)) i);
  named = (named-or (expr.Between n a b ∷ expr.IsNull n ∷ [])
      ∙ ap (λ x. x ++ (fold-Expr (List Named) layer_names (expr.IsNull n) ++ [])) (named-between n a b)
      ∙ ap (λ x. layer_names (Between n a b) ++ (x ++ [])) (named-null n)) i;
}
