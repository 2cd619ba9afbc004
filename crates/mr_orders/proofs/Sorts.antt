-- Sorting gives the same rows in order, with those that tie as they stood.
use Rattle.std.proofs.Common.{◌≡◌, Bool, true, false, true≢false, cond, List, [], ◌∷◌, filter, refl, sym, ◌∙◌, ap, inl, inr}
use Rattle.std.specs.Prelude.{◌&&◌, not}
use Rattle.std.specs.Cmp.{IsTotalOrder}
use Rattle.std.specs.List.{AllByRecursion}
use Rattle.std.specs.List.Sorted.{IsPermutation, IsStable, ties}
use Rattle.std.specs.Ordering.{ordering_reverse, is_gt, is_lt}
use Rattle.std.specs.declared.cmp.Ordering.{Ordering}
use Rattle.std.specs.declared.cmp.Ordering.TheVariants.{Less, Equal, Greater}
use Rattle.std.proofs.lemmas.Bool.{cases_Bool}
use Rattle.std.proofs.lemmas.Cmp.{upto}
use Rattle.std.proofs.lemmas.List.Sorted.{IsPermutation-refl, IsPermutation-trans, IsPermutation-cons, IsPermutation-middle}
use Rattle.mr_types.specs.declared.row.Row.{Row}
use Rattle.mr_spec.specs.Select.{sorted, sorted_in}
use Rattle.mr_orders.specs.Orders.{IsInOrder, IsSorted}

-- ---- the same rows

exchanged : (x y : Row) (ys : List Row) → IsPermutation (x ∷ y ∷ ys) (y ∷ x ∷ ys)
exchanged x y ys = IsPermutation-middle (x ∷ []) y ys

same-in : (cmp : Row → Row → Ordering) (x : Row) (xs : List Row) → IsPermutation (x ∷ xs) (sorted_in cmp x xs)
same-in cmp x [] = IsPermutation-refl (x ∷ [])
same-in cmp x (y ∷ ys) = elim (is_gt (cmp x y)) as (λ b. IsPermutation (x ∷ y ∷ ys) (cond b (y ∷ sorted_in cmp x ys) (x ∷ y ∷ ys))) [
  | true ↦ IsPermutation-trans (x ∷ y ∷ ys) (y ∷ x ∷ ys) (y ∷ sorted_in cmp x ys) (exchanged x y ys) (IsPermutation-cons y (x ∷ ys) (sorted_in cmp x ys) (same-in cmp x ys))
  | false ↦ IsPermutation-refl (x ∷ y ∷ ys)
]

pub same-sorted : (cmp : Row → Row → Ordering) (xs : List Row) → IsPermutation xs (sorted cmp xs)
same-sorted cmp [] = IsPermutation-refl []
same-sorted cmp (x ∷ xs) = IsPermutation-trans (x ∷ xs) (x ∷ sorted cmp xs) (sorted cmp (x ∷ xs)) (IsPermutation-cons x xs (sorted cmp xs) (same-sorted cmp xs)) (same-in cmp x (sorted cmp xs))

pub each-in : (cmp : Row → Row → Ordering) (P : Row → Type 0) (x : Row) (xs : List Row) → P x → AllByRecursion P xs → AllByRecursion P (sorted_in cmp x xs)
each-in cmp P x [] px all = (px, tt)
each-in cmp P x (y ∷ ys) px all = elim (is_gt (cmp x y)) as (λ b. AllByRecursion P (cond b (y ∷ sorted_in cmp x ys) (x ∷ y ∷ ys))) [
  | true ↦ (all.0, each-in cmp P x ys px all.1)
  | false ↦ (px, all)
]

pub each-sorted : (cmp : Row → Row → Ordering) (P : Row → Type 0) (xs : List Row) → AllByRecursion P xs → AllByRecursion P (sorted cmp xs)
each-sorted cmp P [] all = tt
each-sorted cmp P (x ∷ xs) all = each-in cmp P x (sorted cmp xs) all.0 (each-sorted cmp P xs all.1)

-- ---- in order

module _ (cmp : Row → Row → Ordering) (o : IsTotalOrder cmp) where
  -- no row comes before x
  abbrev Leads : Row → List Row → Type 0
  Leads x xs = AllByRecursion (λ y. is_gt (cmp x y) ≡ false) xs

  leads-on : (x y : Row) (ys : List Row) → is_gt (cmp x y) ≡ false → Leads y ys → Leads x ys
  leads-on x y [] h all = tt
  leads-on x y (z ∷ zs) h all = (upto o x y z h all.0, leads-on x y zs h all.1)

  not-greater : (x y : Row) → is_gt (cmp x y) ≡ true → is_gt (cmp y x) ≡ false
  not-greater x y h = by-order (cmp x y) (cmp y x) (o.antisymm y x) h
    where
      by-order : (a b : Ordering) → b ≡ ordering_reverse a → is_gt a ≡ true → is_gt b ≡ false
      by-order Less b e h = cc
      by-order Equal b e h = cc
      by-order Greater b e h = rw e

  ordered-in : (x : Row) (xs : List Row) → IsInOrder cmp xs → IsInOrder cmp (sorted_in cmp x xs)
  ordered-in x [] all = (tt, tt)
  ordered-in x (y ∷ ys) all = elim (cases_Bool (is_gt (cmp x y))) [
    | inl gt ↦ rw gt (each-in cmp (λ z. is_gt (cmp y z) ≡ false) x ys (not-greater x y gt) all.0, ordered-in x ys all.1)
    | inr le ↦ rw le ((le, leads-on x y ys le all.0), all)
  ]

  pub ordered : (xs : List Row) → IsInOrder cmp (sorted cmp xs)
  ordered [] = tt
  ordered (x ∷ xs) = ordered-in x (sorted cmp xs) (ordered xs)

  -- ---- those that tie as they stood

  abbrev Tied : Row → Row → Bool
  Tied z x = ties (λ x y. is_lt (cmp x y)) z x

  level : (a b : Ordering) → b ≡ ordering_reverse a → (not (is_lt a) && not (is_lt b)) ≡ true → a ≡ Equal
  level Less b e h = cc
  level Equal b e h = refl
  level Greater b e h = absurd (true≢false (sym h ∙ ap (λ c. not (is_lt c)) e))

  not-equal : (a : Ordering) → is_gt a ≡ true → a ≡ Equal → ⊥
  not-equal Less g e = cc
  not-equal Equal g e = cc
  not-equal Greater g e = cc

  -- a row that ties with y doesn't tie with an x behind y
  apart : (x y z : Row) → is_gt (cmp x y) ≡ true → Tied z y ≡ true → Tied z x ≡ false
  apart x y z gt t = elim (cases_Bool (Tied z x)) [
    | inl both ↦ absurd (not-equal (cmp x y) gt (sym (o.congr z x y (level (cmp z x) (cmp x z) (o.antisymm x z) both)) ∙ level (cmp z y) (cmp y z) (o.antisymm y z) t))
    | inr no_tie ↦ no_tie
  ]

  passing : (a b : Bool) (x y : Row) (f : List Row) → (b ≡ true → a ≡ false) → cond b (y ∷ cond a (x ∷ f) f) (cond a (x ∷ f) f) ≡ cond a (x ∷ cond b (y ∷ f) f) (cond b (y ∷ f) f)
  passing a true x y f h = rw (h refl) refl
  passing a false x y f h = refl

  stable-in : (z x : Row) (xs : List Row) → filter (Tied z) (sorted_in cmp x xs) ≡ filter (Tied z) (x ∷ xs)
  stable-in z x [] = refl
  stable-in z x (y ∷ ys) = elim (cases_Bool (is_gt (cmp x y))) [
    | inl gt ↦ rw gt (ap (λ f. cond (Tied z y) (y ∷ f) f) (stable-in z x ys) ∙ passing (Tied z x) (Tied z y) x y (filter (Tied z) ys) (apart x y z gt))
    | inr le ↦ rw le
  ]

  pub stable : (xs : List Row) → IsStable cmp xs (sorted cmp xs)
  stable [] z = refl
  stable (x ∷ xs) z = stable-in z x (sorted cmp xs) ∙ ap (λ f. cond (Tied z x) (x ∷ f) f) (stable xs z)

pub is-sorted : (cmp : Row → Row → Ordering) (rows : List Row) → IsTotalOrder cmp → IsSorted cmp rows (sorted cmp rows)
is-sorted cmp rows o = record { same = same-sorted cmp rows; in_order = ordered cmp o rows; stable = stable cmp o rows }
