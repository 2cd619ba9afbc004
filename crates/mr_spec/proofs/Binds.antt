-- A bound condition has the truth of the condition that was written.
use Rattle.std.proofs.Common.{◌≡◌, ℕ, List, [], ◌∷◌, map, refl, ap, sym, ◌∙◌, subst}
use Rattle.mr_types.specs.declared.value.Value.{Value}
use Rattle.mr_spec.specs.declared.truth.Truth.{Truth}
use Rattle.mr_types.specs.declared.expr.Cmp.TheVariants.{Eq}
use Rattle.mr_types.specs.declared.expr.Expr.{Expr}
use Rattle.mr_types.specs.declared.expr.Expr.TheFolds.{fold-roll-Expr, ind-Expr}
use Rattle.mr_types.specs.declared.expr.Expr.{roll-Expr, map-Expr}
use Rattle.mr_types.specs.declared.expr.Expr.TheOpen.{Expr-F, Compare, IsNull, Between, OneOf, Not, And, Or}
use Rattle.mr_spec.specs.declared.bound.Bound.{Bound, roll-Bound, map-Bound}
use Rattle.mr_spec.specs.declared.bound.Bound.TheFolds.{fold-roll-Bound}
use Rattle.mr_spec.specs.declared.bound.Bound.TheVariants.{rolls-Compare, rolls-IsNull, rolls-Between, rolls-OneOf, rolls-Not, rolls-And, rolls-Or}
use Rattle.mr_spec.specs.declared.bound.Bound.TheOpen as b
use Rattle.mr_types.specs.declared.definition.TableDef.{TableDef}
use Rattle.mr_types.specs.declared.row.Row.{Row}
use Rattle.mr_spec.specs.Truth.{truth_of, layer_of, all_of, any_of, or_of, not_of, one_of, field_of, test_of}
use Rattle.mr_spec.specs.Binding.{bound_of, bound_layer, bound_truth, bound_truth_layer, literal_in, place_or_first, one_at}

module _ (def : TableDef) (row : Row) where
  abbrev pub Binds : Expr → Type 0
  Binds e = truth_of def row e ≡ bound_truth def row (bound_of def e)

  abbrev truth : Bound → Truth
  truth c = bound_truth def row c

  one_of-bound : (name : List ℕ) (vs : List Value) → one_of (field_of def row name) vs ≡ one_at def row (place_or_first def name) (map (literal_in def name) vs)
  one_of-bound name [] = refl
  one_of-bound name (v ∷ vs) = ap (or_of (test_of (field_of def row name) Eq v)) (one_of-bound name vs)

  all-bound : (es : List ((e : Expr) × Binds e)) → all_of (map (truth_of def row) (map (λ e. e.0) es)) ≡ all_of (map truth (map (bound_of def) (map (λ e. e.0) es)))
  all-bound [] = refl
  all-bound (e ∷ es) = rw (e.1, all-bound es) refl

  any-bound : (es : List ((e : Expr) × Binds e)) → any_of (map (truth_of def row) (map (λ e. e.0) es)) ≡ any_of (map truth (map (bound_of def) (map (λ e. e.0) es)))
  any-bound [] = refl
  any-bound (e ∷ es) = rw (e.1, any-bound es) refl

  -- a layer that was rolled: both sides by their layers
  layers : (x : Expr-F Expr) (l : b.Bound-F Bound) →
      bound_layer def (map-Expr Expr Bound (bound_of def) x) ≡ roll-Bound l →
      layer_of def row (map-Expr Expr Truth (truth_of def row) x) ≡ bound_truth_layer def row (map-Bound Bound Truth truth l) →
      Binds (roll-Expr x)
  layers x l e t = fold-roll-Expr Truth (layer_of def row) x ∙ t ∙ sym (ap truth (fold-roll-Expr Bound (bound_layer def) x ∙ e) ∙ fold-roll-Bound Truth (bound_truth_layer def row) l)

  layer-binds : (y : Expr-F ((e : Expr) × Binds e)) → Binds (roll-Expr (map-Expr ((e : Expr) × Binds e) Expr (λ e. e.0) y))
  layer-binds (Compare n c v) = layers (Compare n c v) (b.Compare (place_or_first def n) c (literal_in def n v)) (sym (rolls-Compare _ _ _)) refl
  layer-binds (IsNull n) = layers (IsNull n) (b.IsNull (place_or_first def n)) (sym (rolls-IsNull _)) refl
  layer-binds (Between n u v) = layers (Between n u v) (b.Between (place_or_first def n) (literal_in def n u) (literal_in def n v)) (sym (rolls-Between _ _ _)) refl
  layer-binds (OneOf n vs) = layers (OneOf n vs) (b.OneOf (place_or_first def n) (map (literal_in def n) vs)) (sym (rolls-OneOf _ _)) (one_of-bound n vs)
  layer-binds (Not e) = layers (Not e.0) (b.Not (bound_of def e.0)) (sym (rolls-Not _)) (ap not_of e.1)
  layer-binds (And es) = layers (And (map (λ e. e.0) es)) (b.And (map (bound_of def) (map (λ e. e.0) es))) (sym (rolls-And _)) (all-bound es)
  layer-binds (Or es) = layers (Or (map (λ e. e.0) es)) (b.Or (map (bound_of def) (map (λ e. e.0) es))) (sym (rolls-Or _)) (any-bound es)

  -- the bound condition has the truth of the written one
  pub truth-bound : (e : Expr) → Binds e
  truth-bound = ind-Expr Binds (λ x y is. subst (λ z. Binds (roll-Expr z)) is (layer-binds y))
