-- What a condition names, tested layer by layer and as one list.
use Rattle.std.proofs.Common.{◌≡◌, Bool, List, [], ◌∷◌, map, Some, refl, ap, sym, ◌∙◌, subst}
use Rattle.std.specs.List.{list_any}
use Rattle.std.proofs.Math.Bool.{or-false}
use Rattle.std.proofs.lemmas.List.Folds.{list_any-append}
use Rattle.mr_types.specs.declared.expr.Expr.{Expr, fold-Expr, roll-Expr, map-Expr}
use Rattle.mr_types.specs.declared.expr.Expr.TheFolds.{fold-roll-Expr, ind-Expr}
use Rattle.mr_types.specs.declared.expr.Expr.TheOpen.{Expr-F, Compare, IsNull, Between, OneOf, Not, And, Or}
use Rattle.mr_types.specs.declared.definition.TableDef.{TableDef}
use Rattle.mr_types.specs.Refusals.{refuse_where}
use Rattle.mr_spec.specs.Truth.{Named, layer_names, joined, where_of, is_unknown, known_columns}
use Rattle.mr_bind.specs.Naming.{layer_some, some_named}

abbrev names : Expr → List Named
names e = fold-Expr (List Named) layer_names e

module _ (test : Named → Bool) where
  abbrev pub Agrees : Expr → Type 0
  Agrees e = some_named test e ≡ list_any test (names e)

  one : (n : Named) → test n ≡ list_any test (n ∷ [])
  one n = sym (or-false (test n))

  all : (es : List ((e : Expr) × Agrees e)) → list_any (λ b. b) (map (some_named test) (map (λ e. e.0) es)) ≡ list_any test (joined (map names (map (λ e. e.0) es)))
  all [] = refl
  all (e ∷ es) = rw (e.1, all es) (sym (list_any-append test (names e.0) (joined (map names (map (λ e. e.0) es)))))

  -- a layer that was rolled: both sides by their layers
  layers : (x : Expr-F Expr) → layer_some test (map-Expr Expr Bool (some_named test) x) ≡ list_any test (layer_names (map-Expr Expr (List Named) names x)) → Agrees (roll-Expr x)
  layers x h = fold-roll-Expr Bool (layer_some test) x ∙ h ∙ sym (ap (list_any test) (fold-roll-Expr (List Named) layer_names x))

  layer-agrees : (y : Expr-F ((e : Expr) × Agrees e)) → Agrees (roll-Expr (map-Expr ((e : Expr) × Agrees e) Expr (λ e. e.0) y))
  layer-agrees (Compare n c v) = layers (Compare n c v) (one _)
  layer-agrees (IsNull n) = layers (IsNull n) (one _)
  layer-agrees (Between n u v) = layers (Between n u v) (one _)
  layer-agrees (OneOf n vs) = layers (OneOf n vs) (one _)
  layer-agrees (Not e) = layers (Not e.0) e.1
  layer-agrees (And es) = layers (And (map (λ e. e.0) es)) (all es)
  layer-agrees (Or es) = layers (Or (map (λ e. e.0) es)) (all es)

  pub some_is_any : (e : Expr) → Agrees e
  some_is_any = ind-Expr Agrees (λ x y is. subst (λ z. Agrees (roll-Expr z)) is (layer-agrees y))

-- the test of a condition's columns, by what the recursion says
pub known_by : (def : TableDef) (e : Expr) (unknown : Bool) → unknown ≡ some_named (λ n. is_unknown def n.column) e → known_columns def (where_of (Some e)) ≡ refuse_where 1054 unknown
known_by def e unknown h = ap (refuse_where 1054) (sym (h ∙ some_is_any (λ n. is_unknown def n.column) e))
