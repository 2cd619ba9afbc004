-- When two rows collide in a unique key.
use Rattle.std.proofs.Common.{◌≡◌, ℕ, Bool, true, false, List, [], ◌∷◌, refl}
use Rattle.std.specs.Prelude.{◌&&◌, not}
use Rattle.std.specs.Ordering.{is_eq}
use Rattle.std.specs.declared.cmp.Ordering.TheVariants.{Equal}
use Rattle.mr_types.specs.declared.definition.IndexDef.{IndexDef}
use Rattle.mr_types.specs.declared.definition.TableDef.{TableDef}
use Rattle.mr_types.specs.declared.row.Row.{Row}
use Rattle.mr_spec.specs.Rows.{columns_cmp}
use Rattle.mr_spec.specs.Promises.{SameIn, Collides}

same-columns : (def : TableDef) (r s : Row) (is : List ℕ) → SameIn def r s is → columns_cmp def is r s ≡ Equal
same-columns def r s [] h = refl
same-columns def r s (i ∷ is) h = rw (h.0, same-columns def r s is h.1) refl

neither : (unique same : Bool) → (unique && (not true && same)) ≡ false
neither true same = refl
neither false same = refl

pub collides : (def : TableDef) (r s : Row) (key : IndexDef) → Collides def r s key
collides def r s key = record {
  by_values = λ u n h. rw (u, n, same-columns def r s key.columns h) refl;
  never_by_null = λ n. rw n (neither key.unique (is_eq (columns_cmp def key.columns r s)));
}
