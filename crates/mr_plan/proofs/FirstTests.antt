-- A row that meets what a condition says of a column meets the first test of it.
use Rattle.std.proofs.Common.{◌≡◌, ℕ, Bool, true, false, List, [], ◌∷◌, map, Option, Some, None, is_some, refl, sym, ap, subst, ◌∙◌}
use Rattle.std.specs.Prelude.{◌==◌, ◌&&◌, if◌then◌else◌, unwrap_or, slice_get}
use Rattle.std.specs.List.{list_all}
use Rattle.mr_types.specs.declared.expr.Cmp.{Cmp}
use Rattle.mr_types.specs.declared.expr.Cmp.TheVariants.{Eq, Ne, Lt, Le, Gt, Ge}
use Rattle.mr_types.specs.declared.definition.TableDef.{TableDef}
use Rattle.mr_types.specs.declared.row.Row.{Row}
use Rattle.mr_spec.specs.declared.bound.Bound.{Bound, roll-Bound, map-Bound}
use Rattle.mr_spec.specs.declared.bound.Bound.TheFolds.{fold-roll-Bound, ind-Bound}
use Rattle.mr_spec.specs.declared.bound.Bound.TheOpen.{Bound-F, Compare, IsNull, Between, OneOf, Not, And, Or}
use Rattle.mr_spec.specs.Truth.{is_true}
use Rattle.mr_spec.specs.Binding.{test_at}
use Rattle.mr_types.specs.declared.definition.ColumnDef.{ColumnDef}
use Rattle.mr_plan.specs.Keys.{is_fitting, place_held, held}
use Rattle.mr_plan.specs.Columns.{unless_other, is_other, said_layer, said_of, said, fixed}
use Rattle.mr_plan.specs.Firsts.{first_told, first_layer, first_of, meets_first}

and-first : (a b : Bool) → (a && b) ≡ true → a ≡ true
and-first true b h = refl
and-first false b h = cc

and-second : (a b : Bool) → (a && b) ≡ true → b ≡ true
and-second true b h = h
and-second false b h = cc

one-test : (c : Cmp) (b : Bool) → unless_other c b ≡ true → unwrap_or (if is_other c then None else Some b) true ≡ true
one-test Eq b h = h
one-test Ne b h = refl
one-test Lt b h = h
one-test Le b h = h
one-test Gt b h = h
one-test Ge b h = h

at-place : (t x : Bool) (o : Option Bool) → (x ≡ true → unwrap_or o true ≡ true) → (if t then x else true) ≡ true → unwrap_or (if t then o else None) true ≡ true
at-place true x o h e = h e
at-place false x o h e = refl

first-told : (o : Option Bool) (os : List (Option Bool)) → unwrap_or o true ≡ true → unwrap_or (first_told os) true ≡ true → unwrap_or (first_told (o ∷ os)) true ≡ true
first-told None os h k = k
first-told (Some b) os h k = h

module _ (def : TableDef) (p : ℕ) (row : Row) where
  abbrev its : Bound → Bool
  its e = said_of def p row e

  abbrev first : Bound → Option Bool
  first e = first_of def p row e

  abbrev Meets : Bound → Type 0
  Meets e = its e ≡ true → unwrap_or (first e) true ≡ true

  all-meet : (es : List ((e : Bound) × Meets e)) → list_all (λ b. b) (map its (map (λ e. e.0) es)) ≡ true → unwrap_or (first_told (map first (map (λ e. e.0) es))) true ≡ true
  all-meet [] h = refl
  all-meet (e ∷ es) h = first-told (first e.0) (map first (map (λ e. e.0) es)) (e.1 (and-first (its e.0) (list_all (λ b. b) (map its (map (λ e. e.0) es))) h)) (all-meet es (and-second (its e.0) (list_all (λ b. b) (map its (map (λ e. e.0) es))) h))

  layers : (x : Bound-F Bound) → (said_layer def p row (map-Bound Bound Bool its x) ≡ true → unwrap_or (first_layer def p row (map-Bound Bound (Option Bool) first x)) true ≡ true) → Meets (roll-Bound x)
  layers x h s = ap (λ (o : Option Bool). unwrap_or o true) (fold-roll-Bound (Option Bool) (first_layer def p row) x) ∙ h (sym (fold-roll-Bound Bool (said_layer def p row) x) ∙ s)

  layer-meets : (y : Bound-F ((e : Bound) × Meets e)) → Meets (roll-Bound (map-Bound ((e : Bound) × Meets e) Bound (λ e. e.0) y))
  layer-meets (Compare i c v) = layers (Compare i c v) (at-place (i == p) (unless_other c (is_true (test_at def row p c v))) (if is_other c then None else Some (is_true (test_at def row p c v))) (one-test c (is_true (test_at def row p c v))))
  layer-meets (IsNull i) = layers (IsNull i) (λ s. refl)
  layer-meets (Between i a b) = layers (Between i a b) (at-place (i == p) (is_true (test_at def row p Ge a) && is_true (test_at def row p Le b)) (Some (is_true (test_at def row p Ge a) && is_true (test_at def row p Le b))) (λ s. s))
  layer-meets (OneOf i vs) = layers (OneOf i vs) (λ s. refl)
  layer-meets (Not e) = layers (Not e.0) (λ s. refl)
  layer-meets (And es) = layers (And (map (λ e. e.0) es)) (all-meet es)
  layer-meets (Or es) = layers (Or (map (λ e. e.0) es)) (λ s. refl)

  meets : (e : Bound) → Meets e
  meets = ind-Bound Meets (λ x y is. subst (λ z. Meets (roll-Bound z)) is (layer-meets y))

pub first-met : (def : TableDef) (p : ℕ) (row : Row) (e : Option Bound) → said def p row e ≡ true → meets_first def p row e ≡ true
first-met def p row None h = refl
first-met def p row (Some e) h = meets def p row e h

pub first-held : (def : TableDef) (e : Option Bound) (p : ℕ) (places : List ℕ) (row : Row) (column : ColumnDef) → slice_get def.columns p ≡ Some column → held def e (p ∷ places) row ≡ true → said def p row e ≡ true
first-held def e p places row column here h =
    sym (ap (λ (o : Option ColumnDef). if is_some o then said def p row e else true) here)
    ∙ and-first (place_held def e p row) (if is_fitting (slice_get def.columns p) (fixed p e) then held def e places row else true) h
