-- A version among others.
use Rattle.std.proofs.Common.{◌≡◌, Bool, true, false, List, [], ◌∷◌, ◌++◌, refl, sym, ◌∙◌, ap, inl, inr}
use Rattle.std.specs.declared.cmp.Ordering.{Ordering}
use Rattle.std.specs.Ordering.{is_gt}
use Rattle.std.specs.Cmp.{IsTotalOrder}
use Rattle.std.proofs.lemmas.Cmp.{upto}
use Rattle.std.proofs.lemmas.Bool.{cases_Bool}
use Rattle.mr_iter.specs.Versions.{IsInOrder, place_in, in_order, joined, merged}
use Rattle.mr_iter.specs.Order.{not_greater, place_in-front}

pub clash : {b : Bool} → b ≡ false → b ≡ true → ⊥
clash low high = cc

module _ {X : Type 0} (cmp : X → X → Ordering) (o : IsTotalOrder cmp) where
  -- a greater one goes in before or behind a smaller one alike
  pub swapped : (x y : X) (zs : List X) → is_gt (cmp x y) ≡ true → place_in cmp x (place_in cmp y zs) ≡ place_in cmp y (place_in cmp x zs)
  swapped x y [] gt = let lt = not_greater cmp o x y gt in rw (gt, lt) refl
  swapped x y (z ∷ zs) gt = let lt = not_greater cmp o x y gt in elim (cases_Bool (is_gt (cmp y z))) [
    | inl yz ↦ elim (cases_Bool (is_gt (cmp x z))) [
      | inl xz ↦ rw (yz, xz) (rw yz (ap (λ (ws : List X). z ∷ ws) (swapped x y zs gt)))
      | inr xz ↦ absurd (clash (upto o x z y xz (not_greater cmp o y z yz)) gt)
    ]
    | inr yz ↦ elim (cases_Bool (is_gt (cmp x z))) [
      | inl xz ↦ rw (yz, xz) (rw (gt, yz) refl)
      | inr xz ↦ rw (yz, xz) (rw (gt, lt) refl)
    ]
  ]

  pub in_order-place_in : (x : X) (xs ys : List X) → in_order cmp (place_in cmp x xs ++ ys) ≡ place_in cmp x (in_order cmp (xs ++ ys))
  in_order-place_in x [] ys = refl
  in_order-place_in x (y ∷ xs) ys = elim (cases_Bool (is_gt (cmp x y))) [
    | inl gt ↦ rw gt (ap (place_in cmp y) (in_order-place_in x xs ys) ∙ sym (swapped x y (in_order cmp (xs ++ ys)) gt))
    | inr le ↦ rw le refl
  ]

  pub in_order-itself : (xs : List X) → IsInOrder cmp xs → in_order cmp xs ≡ xs
  in_order-itself [] all = refl
  in_order-itself (x ∷ xs) all = ap (place_in cmp x) (in_order-itself xs all.1) ∙ place_in-front cmp o x xs all.0

  pub first_child : (x : X) (xs : List X) (xss : List (List X)) → merged cmp (place_in cmp x xs ∷ xss) ≡ place_in cmp x (merged cmp (xs ∷ xss))
  first_child x xs xss = in_order-place_in x xs (joined xss)
