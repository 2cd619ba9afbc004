-- Visible rows behind changes.
use Rattle.std.proofs.Common.{◌≡◌, ◌⊎◌, ℕ, ◌+◌, ◌≤◌, Bool, true, false, true≢false, cond, List, [], ◌∷◌, filter, Option, Some, None, refl, ap, sym, ◌∙◌, inl, inr, arith}
use Rattle.std.specs.Prelude.{not, nat_le}
use Rattle.std.specs.List.{AllByRecursion}
use Rattle.std.specs.Ordering.{is_lt}
use Rattle.std.specs.declared.cmp.Ordering.{Ordering}
use Rattle.std.specs.declared.cmp.Ordering.TheVariants.{Less, Equal, Greater}
use Rattle.std.proofs.lemmas.Bool.{cases_Bool}
use Rattle.std.proofs.lemmas.Bool.Decides.{nat_tests}
use Rattle.mr_types.specs.declared.definition.TableDef.{TableDef}
use Rattle.mr_types.specs.declared.definition.Ttl.{Ttl}
use Rattle.mr_types.specs.declared.row.Change.{Change}
use Rattle.mr_types.specs.declared.row.Change.TheVariants.{Insert, Update, Delete}
use Rattle.mr_types.specs.declared.row.Row.{Row}
use Rattle.mr_spec.specs.Rows.{primary_cmp, same_primary, placed, without, put, rows_after, is_gone, is_visible, visible}
use Rattle.mr_orders.specs.Orders.{IsAscending}
use Rattle.mr_orders.proofs.Tables.{ascends-kept, ascends-after, before-all}
use Rattle.mr_views.specs.Views.{rows_behind}

-- ---- keeping twice

kept-twice : {A : Type 0} (p q : A → Bool) (xs : List A) → ((x : A) → p x ≡ true → q x ≡ true) → filter p (filter q xs) ≡ filter p xs
kept-twice p q [] h = refl
kept-twice p q (x ∷ xs) h = elim (cases_Bool (q x)) [
  | inl e ↦ rw e (ap (λ ys. cond (p x) (x ∷ ys) ys) (kept-twice p q xs h))
  | inr e ↦ rw (e, not-kept (p x) (cases_Bool (p x)) e) (kept-twice p q xs h)
]
  where
    not-kept : (b : Bool) → (p x ≡ true) ⊎ (p x ≡ false) → q x ≡ false → p x ≡ false
    not-kept b (inl f) e = absurd (true≢false (sym (h x f) ∙ e))
    not-kept b (inr f) e = f

kept-in-turn : {A : Type 0} (p q : A → Bool) (xs : List A) → filter p (filter q xs) ≡ filter q (filter p xs)
kept-in-turn p q [] = refl
kept-in-turn p q (x ∷ xs) = by-tests (cases_Bool (p x)) (cases_Bool (q x)) (kept-in-turn p q xs)
  where
    by-tests : (p x ≡ true) ⊎ (p x ≡ false) → (q x ≡ true) ⊎ (q x ≡ false) → filter p (filter q xs) ≡ filter q (filter p xs) → filter p (filter q (x ∷ xs)) ≡ filter q (filter p (x ∷ xs))
    by-tests (inl e) (inl f) more = rw (e, f, e) (ap (λ ys. x ∷ ys) more)
    by-tests (inl e) (inr f) more = rw (e, f) more
    by-tests (inr e) (inl f) more = rw (e, f, e) more
    by-tests (inr e) (inr f) more = rw (e, f) more

-- ---- expired rows stay expired

gone-on : (ttl : Option Ttl) (stamp : Option ℕ) (now later : ℕ) → now ≤ later → is_gone ttl stamp now ≡ true → is_gone ttl stamp later ≡ true
gone-on (Some ttl) (Some stamp) now later le e = passed (stamp + ttl.duration) now later le e
  where
    passed : (end now later : ℕ) → now ≤ later → nat_le end now ≡ true → nat_le end later ≡ true
    passed end now later le e = grind (arith, nat_tests)
gone-on (Some ttl) None now later le e = absurd (true≢false (sym e))
gone-on None (Some stamp) now later le e = absurd (true≢false (sym e))
gone-on None None now later le e = absurd (true≢false (sym e))

seen-before : (def : TableDef) (now later : ℕ) (r : Row) → now ≤ later → is_visible def later r ≡ true → is_visible def now r ≡ true
seen-before def now later r le e = elim (cases_Bool (is_gone def.ttl r.stamp now)) [
  | inl g ↦ absurd (true≢false (sym e ∙ ap not (gone-on def.ttl r.stamp now later le g)))
  | inr g ↦ ap not g
]

pub visible-later : (def : TableDef) (now later : ℕ) (rows : List Row) → now ≤ later → visible def later (visible def now rows) ≡ visible def later rows
visible-later def now later rows le = kept-twice (is_visible def later) (is_visible def now) rows (λ r. seen-before def now later r le)

-- ---- a row that is placed among those that are kept

is-less : (a : Ordering) → is_lt a ≡ true → a ≡ Less
is-less Less e = refl
is-less Equal e = absurd (true≢false (sym e))
is-less Greater e = absurd (true≢false (sym e))

kept-less : (def : TableDef) (p : Row → Bool) (x : Row) (xs : List Row) → AllByRecursion (λ s. primary_cmp def x s ≡ Less) xs → AllByRecursion (λ s. primary_cmp def x s ≡ Less) (filter p xs)
kept-less def p x [] all = tt
kept-less def p x (y ∷ ys) all = elim (p y) as (λ b. AllByRecursion (λ s. primary_cmp def x s ≡ Less) (cond b (y ∷ filter p ys) (filter p ys))) [
  | true ↦ (all.0, kept-less def p x ys all.1)
  | false ↦ kept-less def p x ys all.1
]

in-front : (def : TableDef) (x : Row) (xs : List Row) → AllByRecursion (λ s. primary_cmp def x s ≡ Less) xs → placed def x xs ≡ x ∷ xs
in-front def x [] all = refl
in-front def x (y ∷ ys) all = rw (ap is_lt all.0) refl

abbrev placed-if : TableDef → Bool → Row → List Row → List Row
placed-if def b x xs = cond b (placed def x xs) xs

kept-behind : (def : TableDef) (p : Row → Bool) (x r : Row) (rs : List Row) → is_lt (primary_cmp def x r) ≡ false → filter p (placed def x rs) ≡ placed-if def (p x) x (filter p rs) → (p r ≡ true) ⊎ (p r ≡ false) → (p x ≡ true) ⊎ (p x ≡ false) →
    cond (p r) (r ∷ filter p (placed def x rs)) (filter p (placed def x rs)) ≡ placed-if def (p x) x (cond (p r) (r ∷ filter p rs) (filter p rs))
kept-behind def p x r rs ge more (inl pr) (inl px) = rw (more, pr, px, ge)
kept-behind def p x r rs ge more (inl pr) (inr px) = rw (more, pr, px)
kept-behind def p x r rs ge more (inr pr) (inl px) = rw (more, pr, px)
kept-behind def p x r rs ge more (inr pr) (inr px) = rw (more, pr, px)

kept-front : (def : TableDef) (p : Row → Bool) (x : Row) (rs : List Row) → AllByRecursion (λ s. primary_cmp def x s ≡ Less) rs → (p x ≡ true) ⊎ (p x ≡ false) → cond (p x) (x ∷ filter p rs) (filter p rs) ≡ placed-if def (p x) x (filter p rs)
kept-front def p x rs all (inl px) = rw px (sym (in-front def x (filter p rs) (kept-less def p x rs all)))
kept-front def p x rs all (inr px) = rw px

kept-placed : (def : TableDef) (p : Row → Bool) (x : Row) (rs : List Row) → IsAscending def rs → filter p (placed def x rs) ≡ placed-if def (p x) x (filter p rs)
kept-placed def p x [] all = refl
kept-placed def p x (r ∷ rs) all = elim (cases_Bool (is_lt (primary_cmp def x r))) [
  | inl lt ↦ let less : primary_cmp def x r ≡ Less = is-less (primary_cmp def x r) lt in rw lt (kept-front def p x (r ∷ rs) (less, before-all def x r rs less all.0) (cases_Bool (p x)))
  | inr ge ↦ rw ge (kept-behind def p x r rs ge (kept-placed def p x rs all.1) (cases_Bool (p r)) (cases_Bool (p x)))
]

-- ---- a change

abbrev other : TableDef → Row → Row → Bool
other def x r = not (same_primary def x r)

-- what is visible behind a put row, by what was visible
visible-put : (def : TableDef) (m : ℕ) (x : Row) (rs : List Row) → IsAscending def rs → visible def m (put def x rs) ≡ placed-if def (is_visible def m x) x (without def x (visible def m rs))
visible-put def m x rs all =
    kept-placed def (is_visible def m) x (without def x rs) (ascends-kept def (other def x) rs all)
    ∙ ap (placed-if def (is_visible def m x) x) (kept-in-turn (is_visible def m) (other def x) rs)

visible-without : (def : TableDef) (m : ℕ) (x : Row) (rs : List Row) → visible def m (without def x rs) ≡ without def x (visible def m rs)
visible-without def m x rs = kept-in-turn (is_visible def m) (other def x) rs

same-put : (def : TableDef) (m : ℕ) (x : Row) (rs os : List Row) → IsAscending def rs → IsAscending def os → visible def m rs ≡ visible def m os → visible def m (put def x rs) ≡ visible def m (put def x os)
same-put def m x rs os a b e = visible-put def m x rs a ∙ ap (λ l. placed-if def (is_visible def m x) x (without def x l)) e ∙ sym (visible-put def m x os b)

same-without : (def : TableDef) (m : ℕ) (x : Row) (rs os : List Row) → visible def m rs ≡ visible def m os → visible def m (without def x rs) ≡ visible def m (without def x os)
same-without def m x rs os e = visible-without def m x rs ∙ ap (without def x) e ∙ sym (visible-without def m x os)

same-after : (def : TableDef) (m : ℕ) (c : Change) (rs os : List Row) → IsAscending def rs → IsAscending def os → visible def m rs ≡ visible def m os → visible def m (rows_after def rs c) ≡ visible def m (rows_after def os c)
same-after def m (Insert table new) rs os a b e = same-put def m new rs os a b e
same-after def m (Update table old new) rs os a b e = same-put def m new (without def old rs) (without def old os) (ascends-kept def (other def old) rs a) (ascends-kept def (other def old) os b) (same-without def m old rs os e)
same-after def m (Delete table old) rs os a b e = same-without def m old rs os e

same-behind : (def : TableDef) (m : ℕ) (cs : List Change) (rs os : List Row) → IsAscending def rs → IsAscending def os → visible def m rs ≡ visible def m os → visible def m (rows_behind def rs cs) ≡ visible def m (rows_behind def os cs)
same-behind def m [] rs os a b e = e
same-behind def m (c ∷ cs) rs os a b e = same-behind def m cs (rows_after def rs c) (rows_after def os c) (ascends-after def rs c a) (ascends-after def os c b) (same-after def m c rs os a b e)

pub gone-or-not : (def : TableDef) (now later : ℕ) (rows others : List Row) (changes : List Change) → IsAscending def rows → IsAscending def others → visible def now rows ≡ visible def now others → now ≤ later → visible def later (rows_behind def rows changes) ≡ visible def later (rows_behind def others changes)
gone-or-not def now later rows others changes a b e le = same-behind def later changes rows others a b (sym (visible-later def now later rows le) ∙ ap (visible def later) e ∙ visible-later def now later others le)
