-- A key that `=` fixes, against the rows whose condition is true.
use Rattle.std.proofs.Common.{◌≡◌, ℕ, zero, suc, ◌+◌, ◌<◌, Bool, true, false, List, [], ◌∷◌, ◌++◌, Option, Some, None, refl, sym, ap, subst, ◌∙◌, length, drop, arith, append_assoc}
use Rattle.std.specs.Prelude.{◌&&◌, not, slice_get, unwrap_or}
use Rattle.std.specs.Option.{option_map_or}
use Rattle.std.specs.Ordering.{is_eq, ordering_then}
use Rattle.std.specs.declared.cmp.Ordering.{Ordering}
use Rattle.std.specs.declared.cmp.Ordering.TheVariants.{Less, Equal, Greater}
use Rattle.mr_types.specs.declared.kind.Kind.{Kind}
use Rattle.mr_types.specs.declared.kind.Kind.TheVariants as kinds
use Rattle.mr_types.specs.declared.definition.ColumnDef.{ColumnDef}
use Rattle.mr_types.specs.declared.definition.TableDef.{TableDef}
use Rattle.mr_types.specs.declared.row.Row.{Row}
use Rattle.mr_types.specs.declared.value.Value.{Value}
use Rattle.mr_types.specs.declared.value.Value.TheVariants.{Null}
use Rattle.mr_types.specs.declared.expr.Cmp.TheVariants.{Eq}
use Rattle.mr_types.specs.Rows.{IsRowOf}
use Rattle.mr_types.specs.Values.{is_null}
use Rattle.mr_types.specs.Order.{value_cmp}
use Rattle.mr_spec.specs.declared.bound.Bound.{Bound}
use Rattle.mr_spec.specs.Rows.{value_at}
use Rattle.mr_spec.specs.Truth.{is_true, compared}
use Rattle.mr_memcmp.specs.Fitting.{FitsPart, AllFit}
use Rattle.mr_memcmp.specs.KeyOrder.{part_cmp, columns_cmp}
use Rattle.mr_plan.specs.Columns.{keeps, fixed}
use Rattle.mr_plan.specs.Tests.{fits_column}
use Rattle.mr_plan.specs.Keys.{is_fitting}
use Rattle.mr_plan.specs.Points.{are_fixed, is_point, fixed_from}
use Rattle.mr_plan.proofs.Fits.{true_fits}
use Rattle.mr_plan.proofs.Said.{true-said, fixed-same}
use Rattle.mr_plan.proofs.Leaves.{compared-is, compared-null}
use Rattle.mr_plan.proofs.Holding.{field-of}

and-first : (a b : Bool) → (a && b) ≡ true → a ≡ true
and-first true b h = refl
and-first false b h = cc

and-second : (a b : Bool) → (a && b) ≡ true → b ≡ true
and-second true b h = h
and-second false b h = cc

-- the value at a place
fixed-at : (e : Option Bound) (at p : ℕ) (columns : List ColumnDef) (column : ColumnDef) → slice_get columns p ≡ Some column → slice_get (fixed_from e at columns) p ≡ Some (unwrap_or (fixed (at + p) e) Null)
fixed-at e at p [] column h = cc
fixed-at e at zero (c ∷ columns) column h = ap (λ (n : ℕ). Some (unwrap_or (fixed n e) Null)) (let s : at ≡ at + 0 = omega arith in s)
fixed-at e at (suc p) (c ∷ columns) column h = fixed-at e (suc at) p columns column h ∙ ap (λ (n : ℕ). Some (unwrap_or (fixed n e) Null)) (let s : suc at + p ≡ at + suc p = omega arith in s)

module _ (def : TableDef) (e : Option Bound) where
  abbrev values : List Value
  values = fixed_from e 0 def.columns

  -- the column, and the value that it is fixed to
  abbrev IsFixedAt : ℕ → Type 0
  IsFixedAt p = (column : ColumnDef) × (v : Value) × (slice_get def.columns p ≡ Some column) × (fixed p e ≡ Some v) × (fits_column column.ty v ≡ true) × (slice_get values p ≡ Some v)

  fixed-here : (p : ℕ) → is_fitting (slice_get def.columns p) (fixed p e) ≡ true → IsFixedAt p
  fixed-here p h = by (slice_get def.columns p) refl (fixed p e) refl
    where
      by : (o : Option ColumnDef) → slice_get def.columns p ≡ o → (f : Option Value) → fixed p e ≡ f → IsFixedAt p
      by None c f g = let m : false ≡ true = ap (λ (x : Option ColumnDef). is_fitting x (fixed p e)) (sym c) ∙ h in cc
      by (Some column) c None g = let m : false ≡ true = ap (is_fitting (Some column)) (sym g) ∙ ap (λ (x : Option ColumnDef). is_fitting x (fixed p e)) (sym c) ∙ h in cc
      by (Some column) c (Some v) g = (column, v, c, g, ap (is_fitting (Some column)) (sym g) ∙ ap (λ (x : Option ColumnDef). is_fitting x (fixed p e)) (sym c) ∙ h, fixed-at e 0 p def.columns column c ∙ ap (λ (n : ℕ). Some (unwrap_or (fixed n e) Null)) (let s : 0 + p ≡ p = omega arith in s) ∙ ap (λ (o : Option Value). Some (unwrap_or o Null)) g)

  all-fit : (ps : List ℕ) → are_fixed def e ps ≡ true → AllFit def.columns values ps
  all-fit [] h = tt
  all-fit (p ∷ ps) h =
      let x = fixed-here p (and-first (is_fitting (slice_get def.columns p) (fixed p e)) (are_fixed def e ps) h) in
      (subst (λ (o : Option ColumnDef). FitsPart o (slice_get values p)) (sym x.2) (subst (FitsPart (Some x.0)) (sym x.5) (true_fits x.0.ty x.1 x.4)), all-fit ps (and-second (is_fitting (slice_get def.columns p) (fixed p e)) (are_fixed def e ps) h))

  module _ (row : Row) (is_row : IsRowOf def row) (true-here : keeps def e row ≡ true) where
    equal : (n : Bool) (o : Ordering) → (not n && is_eq o) ≡ true → o ≡ Equal
    equal true o h = cc
    equal false Less h = cc
    equal false Equal h = refl
    equal false Greater h = cc

    same-value : (p : ℕ) (column : ColumnDef) (field v : Value) → slice_get def.columns p ≡ Some column → slice_get row.fields p ≡ Some field → fixed p e ≡ Some v → value_cmp column.ty.kind field v ≡ Equal
    same-value p column field v here there f = by (is_null v) refl
      where
        test : is_true (compared column.ty.kind field Eq v) ≡ true
        test =
            ap is_true (sym (ap (λ (k : Kind). compared k (value_at row p) Eq v) (ap (λ (o : Option ColumnDef). option_map_or (λ c. c.ty.kind) o kinds.Int) here) ∙ ap (λ (w : Value). compared column.ty.kind w Eq v) (ap (λ (o : Option Value). unwrap_or o Null) there)))
            ∙ fixed-same def row p e v (true-said def row p e true-here) f

        by : (n : Bool) → is_null v ≡ n → value_cmp column.ty.kind field v ≡ Equal
        by true null = let m : false ≡ true = sym (compared-null column.ty.kind field Eq v null) ∙ test in cc
        by false null = equal (is_null field) (value_cmp column.ty.kind field v) (sym (compared-is column.ty.kind field Eq v null) ∙ test)

    all-same : (ps : List ℕ) → are_fixed def e ps ≡ true → columns_cmp def.columns ps row.fields values ≡ Equal
    all-same [] h = refl
    all-same (p ∷ ps) h =
        let x = fixed-here p (and-first (is_fitting (slice_get def.columns p) (fixed p e)) (are_fixed def e ps) h) in
        let found = field-of def row p is_row x.0 x.2 in
        ap (λ (o : Option ColumnDef). ordering_then (part_cmp o (slice_get row.fields p) (slice_get values p)) (columns_cmp def.columns ps row.fields values)) x.2
        ∙ ap (λ (o : Option Value). ordering_then (part_cmp (Some x.0) o (slice_get values p)) (columns_cmp def.columns ps row.fields values)) found.1
        ∙ ap (λ (o : Option Value). ordering_then (part_cmp (Some x.0) (Some found.0) o) (columns_cmp def.columns ps row.fields values)) x.5
        ∙ ap (λ (o : Ordering). ordering_then o (columns_cmp def.columns ps row.fields values)) (same-value p x.0 found.0 x.1 x.2 found.1 x.3)
        ∙ all-same ps (and-second (is_fitting (slice_get def.columns p) (fixed p e)) (are_fixed def e ps) h)

point-fixed : (def : TableDef) (e : Option Bound) (ps : List ℕ) → is_point def e ps ≡ true → are_fixed def e ps ≡ true
point-fixed def e [] h = refl
point-fixed def e (p ∷ ps) h = h

pub point_fits : (def : TableDef) (e : Option Bound) (fields : List Value) → fields ≡ fixed_from e 0 def.columns → is_point def e def.primary.columns ≡ true → AllFit def.columns fields def.primary.columns
point_fits def e fields is h = subst (λ (vs : List Value). AllFit def.columns vs def.primary.columns) (sym is) (all-fit def e def.primary.columns (point-fixed def e def.primary.columns h))

pub point_same : (def : TableDef) (e : Option Bound) (fields : List Value) → fields ≡ fixed_from e 0 def.columns → is_point def e def.primary.columns ≡ true → (row : Row) → IsRowOf def row → keeps def e row ≡ true → columns_cmp def.columns def.primary.columns row.fields fields ≡ Equal
point_same def e fields is h row is_row holds = ap (columns_cmp def.columns def.primary.columns row.fields) is ∙ all-same def e row is_row holds def.primary.columns (point-fixed def e def.primary.columns h)

some-column : (i : ℕ) (columns : List ColumnDef) → i < length columns → (column : ColumnDef) × (drop i columns ≡ column ∷ drop (suc i) columns)
some-column i [] h = absurd (omega arith)
some-column zero (column ∷ columns) h = (column, refl)
some-column (suc i) (column ∷ columns) h = some-column i columns (omega arith)

-- one value more
pub values-more : (e : Option Bound) (columns : List ColumnDef) (i : ℕ) (values new all : List Value) (value : Value) → i < length columns → value ≡ unwrap_or (fixed i e) Null → new ≡ values ++ value ∷ [] → values ++ fixed_from e i (drop i columns) ≡ all → new ++ fixed_from e (i + 1) (drop (i + 1) columns) ≡ all
values-more e columns i values new all value h its is same =
    let found = some-column i columns h in
    ap (λ (n : ℕ). new ++ fixed_from e n (drop n columns)) (let s : i + 1 ≡ suc i = omega arith in s)
    ∙ ap (λ (l : List Value). l ++ fixed_from e (suc i) (drop (suc i) columns)) is
    ∙ append_assoc values (value ∷ []) (fixed_from e (suc i) (drop (suc i) columns))
    ∙ ap (λ (v : Value). values ++ (v ∷ fixed_from e (suc i) (drop (suc i) columns))) its
    ∙ ap (λ (l : List ColumnDef). values ++ fixed_from e i l) (sym found.1)
    ∙ same
