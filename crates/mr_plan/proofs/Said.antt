-- A condition that is true, and what it says of one column.
use Rattle.std.proofs.Common.{◌≡◌, ℕ, Bool, true, false, List, [], ◌∷◌, map, Option, Some, None, refl, sym, ap, subst, ◌∙◌, eq-eqb, inl, inr}
use Rattle.std.specs.Prelude.{◌==◌, ◌&&◌, ◌||◌, if◌then◌else◌}
use Rattle.std.specs.List.{list_any, list_all}
use Rattle.std.proofs.lemmas.Bool.{cases_eq, ne_eqb}
use Rattle.mr_types.specs.declared.value.Value.{Value}
use Rattle.mr_types.specs.declared.expr.Cmp.{Cmp}
use Rattle.mr_types.specs.declared.expr.Cmp.TheVariants.{Eq, Ne, Lt, Le, Gt, Ge}
use Rattle.mr_types.specs.declared.definition.TableDef.{TableDef}
use Rattle.mr_types.specs.declared.row.Row.{Row}
use Rattle.mr_types.specs.Values.{is_null}
use Rattle.mr_spec.specs.declared.truth.Truth.{Truth}
use Rattle.mr_spec.specs.declared.truth.Truth.TheVariants.{True, False, Unknown}
use Rattle.mr_spec.specs.declared.bound.Bound.{Bound, roll-Bound, map-Bound}
use Rattle.mr_spec.specs.declared.bound.Bound.TheFolds.{fold-roll-Bound, ind-Bound}
use Rattle.mr_spec.specs.declared.bound.Bound.TheOpen.{Bound-F, Compare, IsNull, Between, OneOf, Not, And, Or}
use Rattle.mr_spec.specs.Rows.{value_at}
use Rattle.mr_spec.specs.Truth.{is_true, truth_of_test, and_of, or_of, all_of, any_of}
use Rattle.mr_spec.specs.Binding.{test_at, one_at, bound_truth, bound_truth_layer}
use Rattle.mr_plan.specs.Columns.{unless_other, said_layer, said_of, said, keeps, if_equal, first_some, fixed_layer, fixed_of, fixed}

-- ---- truths that are true

and-left : (a b : Truth) → is_true (and_of a b) ≡ true → is_true a ≡ true
and-left True b h = refl
and-left False b h = cc
and-left Unknown True h = cc
and-left Unknown False h = cc
and-left Unknown Unknown h = cc

and-right : (a b : Truth) → is_true (and_of a b) ≡ true → is_true b ≡ true
and-right True b h = h
and-right False b h = cc
and-right Unknown True h = cc
and-right Unknown False h = cc
and-right Unknown Unknown h = cc

pub or-is : (a b : Truth) → is_true (or_of a b) ≡ (is_true a || is_true b)
or-is True b = refl
or-is False b = refl
or-is Unknown True = refl
or-is Unknown False = refl
or-is Unknown Unknown = refl

test-is : (b : Bool) → is_true (truth_of_test b) ≡ b
test-is true = refl
test-is false = refl

unless : (c : Cmp) (b : Bool) → b ≡ true → unless_other c b ≡ true
unless Eq b h = h
unless Ne b h = refl
unless Lt b h = h
unless Le b h = h
unless Gt b h = h
unless Ge b h = h

both : (a b : Bool) → a ≡ true → b ≡ true → (a && b) ≡ true
both true b h k = k
both false b h k = cc

and-first : (a b : Bool) → (a && b) ≡ true → a ≡ true
and-first true b h = refl
and-first false b h = cc

and-second : (a b : Bool) → (a && b) ≡ true → b ≡ true
and-second true b h = h
and-second false b h = cc

either : (a b c d : Bool) → (a ≡ true → c ≡ true) → (b ≡ true → d ≡ true) → (a || b) ≡ true → (c || d) ≡ true
either true b c d h k e = ap (λ (t : Bool). t || d) (h refl)
either false b true d h k e = refl
either false b false d h k e = k e

first-of : (o : Option Value) (os : List (Option Value)) (v : Value) (P : Type 0) → (o ≡ Some v → P) → (first_some os ≡ Some v → P) → first_some (o ∷ os) ≡ Some v → P
first-of None os v P h k f = k f
first-of (Some u) os v P h k f = h f

module _ (def : TableDef) (row : Row) (p : ℕ) where
  abbrev truth : Bound → Truth
  truth e = bound_truth def row e

  abbrev its : Bound → Bool
  its e = said_of def p row e

  one-is : (i : ℕ) (vs : List Value) → is_true (one_at def row i vs) ≡ list_any (λ v. is_true (test_at def row i Eq v)) vs
  one-is i [] = refl
  one-is i (v ∷ vs) = or-is (test_at def row i Eq v) (one_at def row i vs) ∙ ap (λ (b : Bool). is_true (test_at def row i Eq v) || b) (one-is i vs)

  -- a test of the column says itself, a test of another one nothing
  at-place : (i : ℕ) (f : ℕ → Bool) → f i ≡ true → (if i == p then f p else true) ≡ true
  at-place i f h = elim (cases_eq i p) [
    | inl same ↦ ap (λ (b : Bool). if b then f p else true) (eq-eqb i p same) ∙ ap f (sym same) ∙ h
    | inr other ↦ ap (λ (b : Bool). if b then f p else true) (ne_eqb i p other)
  ]

  -- ---- a condition that is true

  abbrev Follows : Bound → Type 0
  Follows e = is_true (truth e) ≡ true → its e ≡ true

  all-follow : (es : List ((e : Bound) × Follows e)) → is_true (all_of (map truth (map (λ e. e.0) es))) ≡ true → list_all (λ b. b) (map its (map (λ e. e.0) es)) ≡ true
  all-follow [] h = refl
  all-follow (e ∷ es) h = both (its e.0) (list_all (λ b. b) (map its (map (λ e. e.0) es))) (e.1 (and-left (truth e.0) (all_of (map truth (map (λ e. e.0) es))) h)) (all-follow es (and-right (truth e.0) (all_of (map truth (map (λ e. e.0) es))) h))

  any-follow : (es : List ((e : Bound) × Follows e)) → is_true (any_of (map truth (map (λ e. e.0) es))) ≡ true → list_any (λ b. b) (map its (map (λ e. e.0) es)) ≡ true
  any-follow [] h = h
  any-follow (e ∷ es) h = either (is_true (truth e.0)) (is_true (any_of (map truth (map (λ e. e.0) es)))) (its e.0) (list_any (λ b. b) (map its (map (λ e. e.0) es))) e.1 (any-follow es) (sym (or-is (truth e.0) (any_of (map truth (map (λ e. e.0) es)))) ∙ h)

  layers : (x : Bound-F Bound) → (is_true (bound_truth_layer def row (map-Bound Bound Truth truth x)) ≡ true → said_layer def p row (map-Bound Bound Bool its x) ≡ true) → Follows (roll-Bound x)
  layers x h t = fold-roll-Bound Bool (said_layer def p row) x ∙ h (ap is_true (sym (fold-roll-Bound Truth (bound_truth_layer def row) x)) ∙ t)

  layer-follows : (y : Bound-F ((e : Bound) × Follows e)) → Follows (roll-Bound (map-Bound ((e : Bound) × Follows e) Bound (λ e. e.0) y))
  layer-follows (Compare i c v) = layers (Compare i c v) (λ t. at-place i (λ (q : ℕ). unless_other c (is_true (test_at def row q c v))) (unless c (is_true (test_at def row i c v)) t))
  layer-follows (IsNull i) = layers (IsNull i) (λ t. at-place i (λ (q : ℕ). is_null (value_at row q)) (sym (test-is (is_null (value_at row i))) ∙ t))
  layer-follows (Between i a b) = layers (Between i a b) (λ t. at-place i (λ (q : ℕ). is_true (test_at def row q Ge a) && is_true (test_at def row q Le b)) (both (is_true (test_at def row i Ge a)) (is_true (test_at def row i Le b)) (and-left (test_at def row i Ge a) (test_at def row i Le b) t) (and-right (test_at def row i Ge a) (test_at def row i Le b) t)))
  layer-follows (OneOf i vs) = layers (OneOf i vs) (λ t. at-place i (λ (q : ℕ). list_any (λ v. is_true (test_at def row q Eq v)) vs) (sym (one-is i vs) ∙ t))
  layer-follows (Not e) = layers (Not e.0) (λ t. refl)
  layer-follows (And es) = layers (And (map (λ e. e.0) es)) (all-follow es)
  layer-follows (Or es) = layers (Or (map (λ e. e.0) es)) (any-follow es)

  follows : (e : Bound) → Follows e
  follows = ind-Bound Follows (λ x y is. subst (λ z. Follows (roll-Bound z)) is (layer-follows y))

  pub true-said : (e : Option Bound) → keeps def e row ≡ true → said def p row e ≡ true
  true-said None h = refl
  true-said (Some e) h = follows e h

  -- ---- a column that `=` fixes

  abbrev Fixes : Bound → Type 0
  Fixes e = (v : Value) → its e ≡ true → fixed_of p e ≡ Some v → is_true (test_at def row p Eq v) ≡ true

  all-fix : (v : Value) (es : List ((e : Bound) × Fixes e)) → list_all (λ b. b) (map its (map (λ e. e.0) es)) ≡ true → first_some (map (fixed_of p) (map (λ e. e.0) es)) ≡ Some v → is_true (test_at def row p Eq v) ≡ true
  all-fix v [] h f = cc
  all-fix v (e ∷ es) h f =
      let rest : first_some (map (fixed_of p) (map (λ e. e.0) es)) ≡ Some v → is_true (test_at def row p Eq v) ≡ true = all-fix v es (and-second (its e.0) (list_all (λ b. b) (map its (map (λ e. e.0) es))) h) in
      first-of (fixed_of p e.0) (map (fixed_of p) (map (λ e. e.0) es)) v (is_true (test_at def row p Eq v) ≡ true) (λ g. e.1 v (and-first (its e.0) (list_all (λ b. b) (map its (map (λ e. e.0) es))) h) g) rest f

  fixings : (x : Bound-F Bound) → ((v : Value) → said_layer def p row (map-Bound Bound Bool its x) ≡ true → fixed_layer p (map-Bound Bound (Option Value) (fixed_of p) x) ≡ Some v → is_true (test_at def row p Eq v) ≡ true) → Fixes (roll-Bound x)
  fixings x h v s f = h v (sym (fold-roll-Bound Bool (said_layer def p row) x) ∙ s) (sym (fold-roll-Bound (Option Value) (fixed_layer p) x) ∙ f)

  no-value : (v : Value) → None ≡ Some v → is_true (test_at def row p Eq v) ≡ true
  no-value v h = cc

  equal-at : (c : Cmp) (u v : Value) → unless_other c (is_true (test_at def row p c u)) ≡ true → if_equal c u ≡ Some v → is_true (test_at def row p Eq v) ≡ true
  equal-at Eq u v s f = ap (λ (w : Value). is_true (test_at def row p Eq w)) (same u v (sym f)) ∙ s
    where
      same : (u v : Value) → Some v ≡ Some u → v ≡ u
      same u v e = cc
  equal-at Ne u v s f = no-value v f
  equal-at Lt u v s f = no-value v f
  equal-at Le u v s f = no-value v f
  equal-at Gt u v s f = no-value v f
  equal-at Ge u v s f = no-value v f

  compare-at : (i : ℕ) (c : Cmp) (u v : Value) → (if i == p then unless_other c (is_true (test_at def row p c u)) else true) ≡ true → (if i == p then if_equal c u else None) ≡ Some v → is_true (test_at def row p Eq v) ≡ true
  compare-at i c u v = by (i == p)
    where
      by : (b : Bool) → (if b then unless_other c (is_true (test_at def row p c u)) else true) ≡ true → (if b then if_equal c u else None) ≡ Some v → is_true (test_at def row p Eq v) ≡ true
      by true s f = equal-at c u v s f
      by false s f = no-value v f

  layer-fixes : (y : Bound-F ((e : Bound) × Fixes e)) → Fixes (roll-Bound (map-Bound ((e : Bound) × Fixes e) Bound (λ e. e.0) y))
  layer-fixes (Compare i c u) = fixings (Compare i c u) (compare-at i c u)
  layer-fixes (IsNull i) = fixings (IsNull i) (λ v s f. no-value v f)
  layer-fixes (Between i a b) = fixings (Between i a b) (λ v s f. no-value v f)
  layer-fixes (OneOf i vs) = fixings (OneOf i vs) (λ v s f. no-value v f)
  layer-fixes (Not e) = fixings (Not e.0) (λ v s f. no-value v f)
  layer-fixes (And es) = fixings (And (map (λ e. e.0) es)) (λ v. all-fix v es)
  layer-fixes (Or es) = fixings (Or (map (λ e. e.0) es)) (λ v s f. no-value v f)

  fixes : (e : Bound) → Fixes e
  fixes = ind-Bound Fixes (λ x y is. subst (λ z. Fixes (roll-Bound z)) is (layer-fixes y))

  pub fixed-same : (e : Option Bound) (v : Value) → said def p row e ≡ true → fixed p e ≡ Some v → is_true (test_at def row p Eq v) ≡ true
  fixed-same None v s f = no-value v f
  fixed-same (Some e) v s f = fixes e v s f
