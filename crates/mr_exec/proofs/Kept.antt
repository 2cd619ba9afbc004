-- Rows in order: keeping some of them, and putting them in a second order, may change places with sorting.
use Rattle.std.proofs.Common.{◌≡◌, ◌⊎◌, Bool, true, false, cond, List, [], ◌∷◌, filter, refl, sym, ◌∙◌, ap, inl, inr}
use Rattle.std.specs.Cmp.{IsTotalOrder}
use Rattle.std.specs.List.{AllByRecursion}
use Rattle.std.specs.Ordering.{is_gt}
use Rattle.std.specs.declared.cmp.Ordering.{Ordering}
use Rattle.std.proofs.lemmas.Bool.{cases_Bool}
use Rattle.std.proofs.lemmas.Cmp.{upto}
use Rattle.mr_types.specs.declared.row.Row.{Row}
use Rattle.mr_spec.specs.Select.{sorted, sorted_in}
use Rattle.mr_orders.specs.Orders.{IsInOrder}
use Rattle.mr_orders.proofs.Sorts.{ordered}

each-kept : (p : Row → Bool) (P : Row → Type 0) (xs : List Row) → AllByRecursion P xs → AllByRecursion P (filter p xs)
each-kept p P [] all = tt
each-kept p P (x ∷ xs) all = elim (p x) as (λ b. AllByRecursion P (cond b (x ∷ filter p xs) (filter p xs))) [
  | true ↦ (all.0, each-kept p P xs all.1)
  | false ↦ each-kept p P xs all.1
]

-- a row's place among rows in order, by the first of them
pub step-behind : (cmp : Row → Row → Ordering) (x y : Row) (ys : List Row) → is_gt (cmp x y) ≡ true → sorted_in cmp x (y ∷ ys) ≡ y ∷ sorted_in cmp x ys
step-behind cmp x y ys h = rw h

pub step-before : (cmp : Row → Row → Ordering) (x y : Row) (ys : List Row) → is_gt (cmp x y) ≡ false → sorted_in cmp x (y ∷ ys) ≡ x ∷ y ∷ ys
step-before cmp x y ys h = rw h

module _ (cmp : Row → Row → Ordering) (o : IsTotalOrder cmp) where
  -- no row comes before x
  abbrev Leads : Row → List Row → Type 0
  Leads x xs = AllByRecursion (λ y. is_gt (cmp x y) ≡ false) xs

  leads-on : (x y : Row) (ys : List Row) → is_gt (cmp x y) ≡ false → Leads y ys → Leads x ys
  leads-on x y [] h all = tt
  leads-on x y (z ∷ zs) h all = (upto o x y z h all.0, leads-on x y zs h all.1)

  pub in-front : (x : Row) (xs : List Row) → Leads x xs → sorted_in cmp x xs ≡ x ∷ xs
  in-front x [] all = refl
  in-front x (y ∷ ys) all = rw all.0

  behind : (p : Row → Bool) (x y : Row) (ys : List Row) → filter p (sorted_in cmp x ys) ≡ cond (p x) (sorted_in cmp x (filter p ys)) (filter p ys) → is_gt (cmp x y) ≡ true → (p y ≡ true) ⊎ (p y ≡ false) → (p x ≡ true) ⊎ (p x ≡ false) →
      cond (p y) (y ∷ filter p (sorted_in cmp x ys)) (filter p (sorted_in cmp x ys)) ≡ cond (p x) (sorted_in cmp x (cond (p y) (y ∷ filter p ys) (filter p ys))) (cond (p y) (y ∷ filter p ys) (filter p ys))
  behind p x y ys more gt (inl py) (inl px) = rw (more, py, px, gt)
  behind p x y ys more gt (inl py) (inr px) = rw (more, py, px)
  behind p x y ys more gt (inr py) (inl px) = rw (more, py, px)
  behind p x y ys more gt (inr py) (inr px) = rw (more, py, px)

  before : (p : Row → Bool) (x y : Row) (ys : List Row) → Leads y ys → is_gt (cmp x y) ≡ false → (p x ≡ true) ⊎ (p x ≡ false) →
      cond (p x) (x ∷ filter p (y ∷ ys)) (filter p (y ∷ ys)) ≡ cond (p x) (sorted_in cmp x (filter p (y ∷ ys))) (filter p (y ∷ ys))
  before p x y ys all le (inl px) = rw px (sym (in-front x (filter p (y ∷ ys)) (each-kept p (λ z. is_gt (cmp x z) ≡ false) (y ∷ ys) (le, leads-on x y ys le all))))
  before p x y ys all le (inr px) = rw px

  keeps-in : (p : Row → Bool) (x : Row) (xs : List Row) → IsInOrder cmp xs → filter p (sorted_in cmp x xs) ≡ cond (p x) (sorted_in cmp x (filter p xs)) (filter p xs)
  keeps-in p x [] all = refl
  keeps-in p x (y ∷ ys) all = elim (cases_Bool (is_gt (cmp x y))) [
    | inl gt ↦ rw gt (behind p x y ys (keeps-in p x ys all.1) gt (cases_Bool (p y)) (cases_Bool (p x)))
    | inr le ↦ rw le (before p x y ys all.0 le (cases_Bool (p x)))
  ]

  -- keeping some of the rows in order is putting those that are kept in order
  pub keeps-sorted : (p : Row → Bool) (xs : List Row) → filter p (sorted cmp xs) ≡ sorted cmp (filter p xs)
  keeps-sorted p [] = refl
  keeps-sorted p (x ∷ xs) = keeps-in p x (sorted cmp xs) (ordered cmp o xs) ∙ elim (cases_Bool (p x)) [
    | inl px ↦ rw px (ap (sorted_in cmp x) (keeps-sorted p xs))
    | inr px ↦ rw px (keeps-sorted p xs)
  ]
