-- No column stands twice in an entry's key.
use Rattle.std.proofs.Common.{◌≡◌, ◌≢◌, ℕ, zero, suc, List, [], ◌∷◌, ◌++◌, refl, sym, ap, ◌∙◌, Bool, true, false, true≢false, cond}
use Rattle.std.specs.Prelude.{slice_get, nat_eq, ◌||◌, ◌==◌}
use Rattle.std.specs.List.{AllByRecursion, list_any}
use Rattle.std.proofs.lemmas.Bool.{eq-eqb, ne_eqb}
use Rattle.mr_types.specs.declared.definition.IndexDef.{IndexDef}
use Rattle.mr_spec.specs.KeyChecks.{has_repeat}
use Rattle.mr_rowval.specs.KeyParts.{is_in}
use Rattle.mr_rowval.specs.Promises.{AreDistinct}
use Rattle.mr_entry.specs.Entry.{columns_of, not_among}
use Rattle.mr_table_rows.proofs.Tests.{is-number}

pub neither : (a b : Bool) → (a || b) ≡ false → (a ≡ false) × (b ≡ false)
neither true b e = absurd (true≢false e)
neither false b e = (refl, e)

-- ---- the test for repeats

unlike : (n m : ℕ) → nat_eq n m ≡ false → m ≢ n
unlike n m e = λ same. absurd (true≢false (sym (is-number n) ∙ ap (nat_eq n) (sym same) ∙ e))

not_in : (n : ℕ) (ns : List ℕ) → list_any (nat_eq n) ns ≡ false → is_in ns n ≡ false
not_in n [] e = refl
not_in n (m ∷ ns) e =
    let parts = neither (nat_eq n m) (list_any (nat_eq n) ns) e in
    rw (ne_eqb m n (unlike n m parts.0)) (not_in n ns parts.1)

pub no_repeat : (ns : List ℕ) → has_repeat ns ≡ false → AreDistinct ns
no_repeat [] e = tt
no_repeat (n ∷ ns) e =
    let parts = neither (list_any (nat_eq n) ns) (has_repeat ns) e in
    (not_in n ns parts.0, no_repeat ns parts.1)

-- ---- a key and the rest of the primary key

out_of_both : (a b : List ℕ) (p : ℕ) → is_in a p ≡ false → is_in b p ≡ false → is_in (a ++ b) p ≡ false
out_of_both [] b p h k = k
out_of_both (x ∷ a) b p h k =
    let parts = neither (x == p) (is_in a p) h in
    rw parts.0 (out_of_both a b p parts.1 k)

less : (own primary : List ℕ) (p : ℕ) → is_in primary p ≡ false → is_in (not_among own primary) p ≡ false
less own [] p h = refl
less own (q ∷ primary) p h =
    let parts = neither (q == p) (is_in primary p) h in
    by_test (is_in own q) q (not_among own primary) p parts.0 (less own primary p parts.1)
  where
    by_test : (b : Bool) (q : ℕ) (l : List ℕ) (p : ℕ) → (q == p) ≡ false → is_in l p ≡ false → is_in (cond b l (q ∷ l)) p ≡ false
    by_test true q l p e h = h
    by_test false q l p e h = rw e h

rest_distinct : (own primary : List ℕ) → AreDistinct primary → AreDistinct (not_among own primary)
rest_distinct own [] h = tt
rest_distinct own (q ∷ primary) h = by_test (is_in own q) q (not_among own primary) (less own primary q h.0) (rest_distinct own primary h.1)
  where
    by_test : (b : Bool) (q : ℕ) (l : List ℕ) → is_in l q ≡ false → AreDistinct l → AreDistinct (cond b l (q ∷ l))
    by_test true q l out h = h
    by_test false q l out h = (out, h)

apart_by : (own : List ℕ) (b : Bool) (q : ℕ) (l : List ℕ) (p : ℕ) → is_in own p ≡ true → is_in own q ≡ b → is_in l p ≡ false → is_in (cond b l (q ∷ l)) p ≡ false
apart_by own true q l p h e out = out
apart_by own false q l p h e out = rw (ne_eqb q p (λ same. true≢false (sym h ∙ sym (ap (is_in own) same) ∙ e))) out

apart : (own primary : List ℕ) (p : ℕ) → is_in own p ≡ true → is_in (not_among own primary) p ≡ false
apart own [] p h = refl
apart own (q ∷ primary) p h = apart_by own (is_in own q) q (not_among own primary) p h refl (apart own primary p h)

or_true : (a b : Bool) → b ≡ true → (a || b) ≡ true
or_true true b e = refl
or_true false b e = e

joined : (own rest : List ℕ) → AreDistinct own → AreDistinct rest → ((p : ℕ) → is_in own p ≡ true → is_in rest p ≡ false) → AreDistinct (own ++ rest)
joined [] rest h k other = k
joined (p ∷ own) rest h k other =
    let here : is_in (p ∷ own) p ≡ true = rw (eq-eqb p p refl) refl in
    (out_of_both own rest p h.0 (other p here), joined own rest h.1 k (λ q e. other q (or_true (p == q) (is_in own q) e)))

pub entry_distinct : (own primary : List ℕ) → AreDistinct own → AreDistinct primary → AreDistinct (own ++ not_among own primary)
entry_distinct own primary h k = joined own (not_among own primary) h (rest_distinct own primary k) (apart own primary)

pub own_distinct : (keys : List IndexDef) (i : ℕ) → AllByRecursion (λ d. AreDistinct d.columns) keys → AreDistinct (columns_of (slice_get keys i))
own_distinct [] i all = tt
own_distinct (key ∷ keys) zero all = all.0
own_distinct (key ∷ keys) (suc i) all = own_distinct keys i all.1
