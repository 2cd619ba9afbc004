-- Where a walk over a list of rows stands.
use Rattle.std.proofs.Common.{◌≡◌, ◌∙◌, ◌+◌, ◌≤◌, ◌<◌, ℕ, Bool, true, false, List, [], ◌∷◌, drop, length, Some, refl, sym, ap, arith, add-one, nat_lt}
use Rattle.std.specs.Prelude.{zero, suc, ◌&&◌, slice_get}
use Rattle.std.proofs.lemmas.Bool.{ltb-true, ltb-false}
use Rattle.mr_types.specs.declared.value.Value.{Value}
use Rattle.mr_types.specs.declared.definition.TableDef.{TableDef}
use Rattle.mr_types.specs.declared.row.Row.{Row}
use Rattle.mr_types.specs.FieldValues.{is_held_by}
use Rattle.mr_spec.specs.Rows.{kind_at}
use Rattle.mr_exec.specs.Sources.{Stepped}
use Rattle.mr_exec.specs.Lists.{values_fit, rows_fit, next_at, stood_on}

there : (rows : List Row) (n : ℕ) → n < length rows → (r : Row) × (drop n rows ≡ r ∷ drop (suc n) rows) × (slice_get rows n ≡ Some r)
there [] n lt = absurd (omega arith)
there (r ∷ rs) zero lt = (r, refl, refl)
there (r ∷ rs) (suc n) lt = there rs n (omega arith)

gone : (rows : List Row) (n : ℕ) → length rows ≤ n → drop n rows ≡ []
gone [] zero le = refl
gone [] (suc n) le = refl
gone (r ∷ rs) zero le = absurd (omega arith)
gone (r ∷ rs) (suc n) le = gone rs n (omega arith)

by-test : (rows : List Row) (n : ℕ) (b : Bool) → nat_lt n (length rows) ≡ b → Stepped b (drop n rows) (stood_on rows n b) (drop (next_at n b) rows)
by-test rows n true e =
    let t = there rows n (ltb-true n (length rows) e) in
    (t.0, t.1 ∙ ap (λ m. t.0 ∷ drop m rows) (sym (add-one n)), t.2)
by-test rows n false e = let le = ltb-false n (length rows) e in (gone rows n le, gone rows n le)

pub stepped : (rows : List Row) (n : ℕ) → Stepped (nat_lt n (length rows)) (drop n rows) (stood_on rows n (nat_lt n (length rows))) (drop (next_at n (nat_lt n (length rows))) rows)
stepped rows n = by-test rows n (nat_lt n (length rows)) refl

-- ---- values in columns of their kinds

first-holds : (a b : Bool) → (a && b) ≡ true → a ≡ true
first-holds true b e = refl
first-holds false b e = e

second-holds : (a b : Bool) → (a && b) ≡ true → b ≡ true
second-holds true b e = e
second-holds false b e = cc

inside : (v w : Value) → Some v ≡ Some w → v ≡ w
inside v w e = cc

inside-rows : (r s : Row) → Some r ≡ Some s → r ≡ s
inside-rows r s e = cc

values-held : (def : TableDef) (i : ℕ) (vs : List Value) (k : ℕ) (v : Value) → values_fit def i vs ≡ true → slice_get vs k ≡ Some v → is_held_by (kind_at def (i + k)) v ≡ true
values-held def i [] k v h e = cc
values-held def i (w ∷ ws) zero v h e =
    let at : i + 0 ≡ i = omega arith in
    ap (λ n. is_held_by (kind_at def n) v) at ∙ ap (is_held_by (kind_at def i)) (sym (inside w v e)) ∙ first-holds (is_held_by (kind_at def i) w) (values_fit def (i + 1) ws) h
values-held def i (w ∷ ws) (suc k) v h e =
    let at : i + suc k ≡ i + 1 + k = omega arith in
    ap (λ n. is_held_by (kind_at def n) v) at ∙ values-held def (i + 1) ws k v (second-holds (is_held_by (kind_at def i) w) (values_fit def (i + 1) ws) h) e

row-held : (def : TableDef) (rows : List Row) (n : ℕ) (r : Row) → rows_fit def rows ≡ true → slice_get rows n ≡ Some r → values_fit def 0 r.fields ≡ true
row-held def [] n r h e = cc
row-held def (s ∷ ss) zero r h e = ap (λ (t : Row). values_fit def 0 t.fields) (sym (inside-rows s r e)) ∙ first-holds (values_fit def 0 s.fields) (rows_fit def ss) h
row-held def (s ∷ ss) (suc n) r h e = row-held def ss n r (second-holds (values_fit def 0 s.fields) (rows_fit def ss) h) e

pub held-at : (def : TableDef) (rows : List Row) (at : ℕ) (stands : Bool) (r : Row) (column : ℕ) (v : Value) → rows_fit def rows ≡ true → stood_on rows at stands ≡ Some r → slice_get r.fields column ≡ Some v → is_held_by (kind_at def column) v ≡ true
held-at def rows at true r column v h e f =
    let start : column ≡ 0 + column = omega arith in
    ap (λ n. is_held_by (kind_at def n) v) start ∙ values-held def 0 r.fields column v (row-held def rows at r h e) f
held-at def rows at false r column v h e f = cc
