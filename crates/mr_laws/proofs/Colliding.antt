-- Rows collide in a key exactly by the same values without NULL.
use Rattle.std.proofs.Common.{◌≡◌, ℕ, Bool, true, false, List, [], ◌∷◌, refl}
use Rattle.std.specs.Prelude.{◌&&◌, ◌||◌, not}
use Rattle.std.specs.Ordering.{is_eq, ordering_then}
use Rattle.std.specs.declared.cmp.Ordering.{Ordering}
use Rattle.std.specs.declared.cmp.Ordering.TheVariants.{Less, Equal, Greater}
use Rattle.mr_types.specs.declared.definition.IndexDef.{IndexDef}
use Rattle.mr_types.specs.declared.definition.TableDef.{TableDef}
use Rattle.mr_types.specs.declared.kind.Kind.{Kind}
use Rattle.mr_types.specs.declared.row.Row.{Row}
use Rattle.mr_types.specs.declared.value.Value.{Value}
use Rattle.mr_types.specs.declared.value.Value.TheVariants.{Null, Number, Text, Bytes}
use Rattle.mr_types.specs.Order.{value_cmp}
use Rattle.mr_types.specs.Values.{is_null}
use Rattle.mr_spec.specs.Promises.{SameIn}
use Rattle.mr_spec.specs.Rows.{kind_at, value_at, columns_cmp, has_null, same_unique}
use Rattle.mr_spec.proofs.Colliding.{collides}
use Rattle.mr_laws.specs.Keys.{SameWithoutNull, CollideByValues}

both : (a b : Ordering) → is_eq (ordering_then a b) ≡ true → (a ≡ Equal) × (is_eq b ≡ true)
both Less b e = absurd cc
both Equal b e = (refl, e)
both Greater b e = absurd cc

-- columns of the same order have the same values
same-in : (def : TableDef) (r s : Row) (is : List ℕ) → is_eq (columns_cmp def is r s) ≡ true → SameIn def r s is
same-in def r s [] e = tt
same-in def r s (i ∷ is) e = let h = both (value_cmp (kind_at def i) (value_at r i) (value_at s i)) (columns_cmp def is r s) e in (h.0, same-in def r s is h.1)

-- what is the same as no NULL is none
no-null : (kind : Kind) (a b : Value) → value_cmp kind a b ≡ Equal → is_null a ≡ false → is_null b ≡ false
no-null kind Null b e h = absurd cc
no-null kind a (Number n) e h = refl
no-null kind a (Text t) e h = refl
no-null kind a (Bytes t) e h = refl
no-null kind (Number n) Null e h = absurd cc
no-null kind (Text t) Null e h = absurd cc
no-null kind (Bytes t) Null e h = absurd cc

neither : (a b : Bool) → (a || b) ≡ false → (a ≡ false) × (b ≡ false)
neither false b e = (refl, e)
neither true b e = absurd cc

nor-null : (def : TableDef) (r s : Row) (is : List ℕ) → SameIn def r s is → has_null r is ≡ false → has_null s is ≡ false
nor-null def r s [] h n = refl
nor-null def r s (i ∷ is) h n =
    let m = neither (is_null (value_at r i)) (has_null r is) n in
    rw (no-null (kind_at def i) (value_at r i) (value_at s i) h.0 m.0, nor-null def r s is h.1 m.1) refl

parts : (u n e : Bool) → (u && (not n && e)) ≡ true → (u ≡ true) × (n ≡ false) × (e ≡ true)
parts false n e h = absurd cc
parts true true e h = absurd cc
parts true false e h = (refl, refl, h)

pub collide-by-values : (def : TableDef) (r s : Row) (key : IndexDef) → CollideByValues def r s key
collide-by-values def r s key = (there, back)
  where
    there : same_unique def r s key ≡ true → SameWithoutNull def r s key
    there e =
        let p = parts key.unique (has_null r key.columns) (is_eq (columns_cmp def key.columns r s)) e in
        let same : SameIn def r s key.columns = same-in def r s key.columns p.2 in
        record { unique = p.0; same = same; no_null = p.1; nor_in_the_other = nor-null def r s key.columns same p.1 }

    back : SameWithoutNull def r s key → same_unique def r s key ≡ true
    back h = (collides def r s key).by_values h.unique h.no_null h.same
