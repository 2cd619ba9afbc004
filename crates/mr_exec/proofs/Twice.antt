-- Putting rows in a second order and then, those that tie as they stood, in a first one.
use Rattle.std.proofs.Common.{◌≡◌, ◌⊎◌, Bool, true, false, not, cond, List, [], ◌∷◌, refl, sym, ◌∙◌, ap, inl, inr}
use Rattle.std.specs.Cmp.{IsTotalOrder}
use Rattle.std.specs.List.{AllByRecursion}
use Rattle.std.specs.Ordering.{is_gt, ordering_then, ordering_reverse}
use Rattle.std.specs.declared.cmp.Ordering.{Ordering}
use Rattle.std.specs.declared.cmp.Ordering.TheVariants.{Less, Equal, Greater}
use Rattle.std.proofs.lemmas.Bool.{cases_Bool}
use Rattle.std.proofs.lemmas.Cmp.{upto}
use Rattle.mr_types.specs.declared.row.Row.{Row}
use Rattle.mr_spec.specs.Select.{sorted, sorted_in}
use Rattle.mr_orders.specs.Orders.{IsInOrder}
use Rattle.mr_orders.proofs.Sorts.{each-sorted, ordered}
use Rattle.mr_exec.proofs.Kept.{step-behind, step-before}

module _ (first second : Row → Row → Ordering) (o : IsTotalOrder first) (p : IsTotalOrder second) where
  abbrev both : Row → Row → Ordering
  both r s = ordering_then (first r s) (second r s)

  -- where x isn't behind by the second order, both orders decide as the first
  as-first : (a b : Ordering) → is_gt b ≡ false → is_gt (ordering_then a b) ≡ is_gt a
  as-first Less b e = refl
  as-first Equal b e = e
  as-first Greater b e = refl

  in-both : (x : Row) (ys : List Row) → AllByRecursion (λ y. is_gt (second x y) ≡ false) ys → sorted_in first x ys ≡ sorted_in both x ys
  in-both x [] all = refl
  in-both x (y ∷ ys) all = ap (λ b. cond b (y ∷ sorted_in first x ys) (x ∷ y ∷ ys)) (sym (as-first (first x y) (second x y) all.0)) ∙ ap (λ zs. cond (is_gt (both x y)) (y ∷ zs) (x ∷ y ∷ ys)) (in-both x ys all.1)

  -- x stands behind z by both orders just where z doesn't stand behind x by the first
  turned : (a b c : Ordering) → b ≡ ordering_reverse a → is_gt c ≡ true → is_gt (ordering_then a c) ≡ not (is_gt b)
  turned Less b c e gt = rw e
  turned Equal b c e gt = rw (e, gt)
  turned Greater b c e gt = rw e

  -- z isn't behind w, and w is before x
  passes : (x z w : Row) → is_gt (second x z) ≡ true → is_gt (both x w) ≡ true → is_gt (first z w) ≡ false → is_gt (first z x) ≡ false
  passes x z w gt b f = upto o z w x f (front (first x w) (first w x) (second x w) (o.antisymm w x) b)
    where
      front : (a c d : Ordering) → c ≡ ordering_reverse a → is_gt (ordering_then a d) ≡ true → is_gt c ≡ false
      front Less c d e h = cc
      front Equal c d e h = rw e
      front Greater c d e h = rw e

  -- z is behind w, and x isn't
  stays : (x z w : Row) → is_gt (both x w) ≡ false → is_gt (first z w) ≡ true → is_gt (first z x) ≡ true
  stays x z w b f = elim (cases_Bool (is_gt (first z x))) [
    | inl gt ↦ gt
    | inr le ↦ absurd (never (is_gt (first z w)) f (upto o z x w le (front (first x w) (second x w) b)))
  ]
    where
      front : (a d : Ordering) → is_gt (ordering_then a d) ≡ false → is_gt a ≡ false
      front Less d h = refl
      front Equal d h = refl
      front Greater d h = h

      never : (b : Bool) → b ≡ true → b ≡ false → ⊥
      never true e f = cc
      never false e f = cc

  is-behind : (x z : Row) → is_gt (second x z) ≡ true → is_gt (both x z) ≡ not (is_gt (first z x))
  is-behind x z gt = turned (first x z) (first z x) (second x z) (o.antisymm z x) gt

  abbrev Exchanged : Row → Row → List Row → Type 0
  Exchanged x z ws = sorted_in first z (sorted_in both x ws) ≡ sorted_in both x (sorted_in first z ws)

  at-first : (x z w : Row) (ws : List Row) → is_gt (second x z) ≡ true → is_gt (both x w) ≡ false → is_gt (first z w) ≡ false → (is_gt (first z x) ≡ true) ⊎ (is_gt (first z x) ≡ false) → sorted_in first z (x ∷ w ∷ ws) ≡ sorted_in both x (z ∷ w ∷ ws)
  at-first x z w ws gt b f (inl h) =
      let back : is_gt (both x z) ≡ false = is-behind x z gt ∙ ap not h in
      step-behind first z x (w ∷ ws) h ∙ ap (λ l. x ∷ l) (step-before first z w ws f) ∙ sym (step-before both x z (w ∷ ws) back)
  at-first x z w ws gt b f (inr h) =
      let back : is_gt (both x z) ≡ true = is-behind x z gt ∙ ap not h in
      step-before first z x (w ∷ ws) h ∙ sym (step-behind both x z (w ∷ ws) back ∙ ap (λ l. z ∷ l) (step-before both x w ws b))

  by-place : (x z w : Row) (ws : List Row) → is_gt (second x z) ≡ true → Exchanged x z ws → (is_gt (both x w) ≡ true) ⊎ (is_gt (both x w) ≡ false) → (is_gt (first z w) ≡ true) ⊎ (is_gt (first z w) ≡ false) → Exchanged x z (w ∷ ws)
  by-place x z w ws gt more (inl b) (inl f) =
      ap (sorted_in first z) (step-behind both x w ws b) ∙ step-behind first z w (sorted_in both x ws) f ∙ ap (λ l. w ∷ l) more
      ∙ sym (ap (sorted_in both x) (step-behind first z w ws f) ∙ step-behind both x w (sorted_in first z ws) b)
  by-place x z w ws gt more (inl b) (inr f) =
      let back : is_gt (both x z) ≡ true = is-behind x z gt ∙ ap not (passes x z w gt b f) in
      ap (sorted_in first z) (step-behind both x w ws b) ∙ step-before first z w (sorted_in both x ws) f
      ∙ sym (ap (sorted_in both x) (step-before first z w ws f) ∙ step-behind both x z (w ∷ ws) back ∙ ap (λ l. z ∷ l) (step-behind both x w ws b))
  by-place x z w ws gt more (inr b) (inl f) =
      ap (sorted_in first z) (step-before both x w ws b) ∙ step-behind first z x (w ∷ ws) (stays x z w b f) ∙ ap (λ l. x ∷ l) (step-behind first z w ws f)
      ∙ sym (ap (sorted_in both x) (step-behind first z w ws f) ∙ step-before both x w (sorted_in first z ws) b)
  by-place x z w ws gt more (inr b) (inr f) =
      ap (sorted_in first z) (step-before both x w ws b) ∙ at-first x z w ws gt b f (cases_Bool (is_gt (first z x))) ∙ sym (ap (sorted_in both x) (step-before first z w ws f))

  exchanged : (x z : Row) (ws : List Row) → is_gt (second x z) ≡ true → Exchanged x z ws
  exchanged x z [] gt = elim (cases_Bool (is_gt (first z x))) [
    | inl h ↦ let back : is_gt (both x z) ≡ false = is-behind x z gt ∙ ap not h in step-behind first z x [] h ∙ sym (step-before both x z [] back)
    | inr h ↦ let back : is_gt (both x z) ≡ true = is-behind x z gt ∙ ap not h in step-before first z x [] h ∙ sym (step-behind both x z [] back)
  ]
  exchanged x z (w ∷ ws) gt = by-place x z w ws gt (exchanged x z ws gt) (cases_Bool (is_gt (both x w))) (cases_Bool (is_gt (first z w)))

  leads-all : (x y : Row) (ys : List Row) → is_gt (second x y) ≡ false → AllByRecursion (λ s. is_gt (second y s) ≡ false) ys → AllByRecursion (λ s. is_gt (second x s) ≡ false) ys
  leads-all x y [] h all = tt
  leads-all x y (z ∷ zs) h all = (upto p x y z h all.0, leads-all x y zs h all.1)

  pushed : (x : Row) (zs : List Row) → IsInOrder second zs → sorted first (sorted_in second x zs) ≡ sorted_in both x (sorted first zs)
  pushed x [] all = refl
  pushed x (z ∷ zs) all = elim (cases_Bool (is_gt (second x z))) [
    | inl gt ↦ ap (sorted first) (step-behind second x z zs gt) ∙ ap (sorted_in first z) (pushed x zs all.1) ∙ exchanged x z (sorted first zs) gt
    | inr le ↦ ap (sorted first) (step-before second x z zs le) ∙ in-both x (sorted first (z ∷ zs)) (each-sorted first (λ s. is_gt (second x s) ≡ false) (z ∷ zs) (le, leads-all x z zs le all.0))
  ]

  -- it is putting them in both orders at once
  pub at-once : (xs : List Row) → sorted first (sorted second xs) ≡ sorted both xs
  at-once [] = refl
  at-once (x ∷ xs) = pushed x (sorted second xs) (ordered second p xs) ∙ ap (sorted_in both x) (at-once xs)
