-- There is one list in order, those that tie as they stood.
use Rattle.std.proofs.Common.{◌≡◌, ◌≤◌, ◌<◌, ℕ, Bool, true, false, cond, List, [], ◌∷◌, filter, length, refl, sym, ◌∙◌, ap, subst, inl, inr, arith}
use Rattle.std.specs.Prelude.{◌&&◌, not, suc}
use Rattle.std.specs.Cmp.{IsTotalOrder}
use Rattle.std.specs.Fn.{Called}
use Rattle.std.specs.List.{AllByRecursion}
use Rattle.std.specs.List.Sorted.{IsSortedByClosure, IsStableByClosure, ties}
use Rattle.std.specs.Ordering.{ordering_reverse, is_gt, is_lt}
use Rattle.std.specs.declared.cmp.Ordering.{Ordering}
use Rattle.std.specs.declared.cmp.Ordering.TheVariants.{Less, Equal, Greater}
use Rattle.std.proofs.lemmas.Bool.{cases_Bool}
use Rattle.std.proofs.lemmas.Fn.{always_returns_same}
use Rattle.std.proofs.lemmas.List.Sorted.{ranks_by, sorted_far}
use denote.Ref.{Bor}
use denote.Param.Members.{Mut}
use lib.ListN.{get_or}
use Rattle.mr_iter.specs.Versions.{IsAtFront, IsInOrder, in_order}
use Rattle.mr_iter.specs.Order.{IsInOrder-in_order, filter-in_order, place_in-front}

module _ {X : Type 0} where
  not-empty : (x : X) (xs : List X) → x ∷ xs ≡ [] → ⊥
  not-empty x xs e = cc

  heads : (x y : X) (xs ys : List X) → x ∷ xs ≡ y ∷ ys → x ≡ y
  heads x y xs ys e = cc

  rests : (x y : X) (xs ys : List X) → x ∷ xs ≡ y ∷ ys → xs ≡ ys
  rests x y xs ys e = cc

  -- an element that a test keeps of some has what they all have
  kept-has : (P : X → Type 0) (p : X → Bool) (xs : List X) (y : X) (ys : List X) → AllByRecursion P xs → filter p xs ≡ y ∷ ys → P y
  kept-has P p [] y ys all e = absurd (not-empty y ys (sym e))
  kept-has P p (x ∷ xs) y ys all e = elim (cases_Bool (p x)) [
    | inl h ↦ subst P (heads x y (filter p xs) ys (ap (λ b. cond b (x ∷ filter p xs) (filter p xs)) (sym h) ∙ e)) all.0
    | inr h ↦ kept-has P p xs y ys all.1 (ap (λ b. cond b (x ∷ filter p xs) (filter p xs)) (sym h) ∙ e)
  ]

  -- what a test keeps of the rest
  kept-rest : (p : X → Bool) (x : X) (xs ys : List X) → filter p (x ∷ xs) ≡ filter p (x ∷ ys) → filter p xs ≡ filter p ys
  kept-rest p x xs ys = by (p x)
    where
      by : (b : Bool) → cond b (x ∷ filter p xs) (filter p xs) ≡ cond b (x ∷ filter p ys) (filter p ys) → filter p xs ≡ filter p ys
      by true e = rests x x (filter p xs) (filter p ys) e
      by false e = e

module _ {X : Type 0} (cmp : X → X → Ordering) (o : IsTotalOrder cmp) where
  abbrev less : X → X → Bool
  less x y = is_lt (cmp x y)

  own : (a : Ordering) → a ≡ ordering_reverse a → a ≡ Equal
  own Less e = cc
  own Equal e = refl
  own Greater e = cc

  same : (x : X) → cmp x x ≡ Equal
  same x = own (cmp x x) (o.antisymm x x)

  tied : (a b : Ordering) → b ≡ ordering_reverse a → is_gt a ≡ false → is_gt b ≡ false → (not (is_lt a) && not (is_lt b)) ≡ true
  tied Less b e p q = cc
  tied Equal b e p q = rw e
  tied Greater b e p q = cc

  not-greater : (x y : X) → cmp x y ≡ Equal → is_gt (cmp x y) ≡ false
  not-greater x y e = rw e

  tied-itself : (x : X) → ties less x x ≡ true
  tied-itself x = tied (cmp x x) (cmp x x) (o.antisymm x x) (not-greater x x (same x)) (not-greater x x (same x))

  keeps-first : (p : X → Bool) (x : X) (xs : List X) → p x ≡ true → filter p (x ∷ xs) ≡ x ∷ filter p xs
  keeps-first p x xs e = rw e

  none : (z : X) (zs : List X) → ((x : X) → filter (ties less x) [] ≡ filter (ties less x) (z ∷ zs)) → ⊥
  none z zs alike = not-empty z (filter (ties less z) zs) (sym (alike z ∙ keeps-first (ties less z) z zs (tied-itself z)))

  first-ties : (y z : X) (ys zs : List X) → IsInOrder cmp (y ∷ ys) → IsInOrder cmp (z ∷ zs) → ((x : X) → filter (ties less x) (y ∷ ys) ≡ filter (ties less x) (z ∷ zs)) → ties less y z ≡ true
  first-ties y z ys zs oy oz alike =
      let behind-y : is_gt (cmp y z) ≡ false = kept-has (λ s. is_gt (cmp y s) ≡ false) (ties less z) (y ∷ ys) z (filter (ties less z) zs) (not-greater y y (same y), oy.0) (alike z ∙ keeps-first (ties less z) z zs (tied-itself z)) in
      let behind-z : is_gt (cmp z y) ≡ false = kept-has (λ s. is_gt (cmp z s) ≡ false) (ties less y) (z ∷ zs) y (filter (ties less y) ys) (not-greater z z (same z), oz.0) (sym (alike y) ∙ keeps-first (ties less y) y ys (tied-itself y)) in
      tied (cmp y z) (cmp z y) (o.antisymm z y) behind-y behind-z

  pub one-list : (ys zs : List X) → IsInOrder cmp ys → IsInOrder cmp zs → ((x : X) → filter (ties less x) ys ≡ filter (ties less x) zs) → ys ≡ zs
  one-list [] [] oy oz alike = refl
  one-list [] (z ∷ zs) oy oz alike = absurd (none z zs alike)
  one-list (y ∷ ys) [] oy oz alike = absurd (none y ys (λ x. sym (alike x)))
  one-list (y ∷ ys) (z ∷ zs) oy oz alike =
      let t : ties less y z ≡ true = first-ties y z ys zs oy oz alike in
      let e : y ≡ z = heads y z (filter (ties less y) ys) (filter (ties less y) zs) (sym (keeps-first (ties less y) y ys (tied-itself y)) ∙ alike y ∙ keeps-first (ties less y) z zs t) in
      let more : ys ≡ zs = one-list ys zs oy.1 oz.1 (λ x. kept-rest (ties less x) y ys zs (alike x ∙ ap (λ w. filter (ties less x) (w ∷ zs)) (sym e))) in
      ap (λ w. w ∷ ys) e ∙ ap (λ ws. z ∷ ws) more

  not-behind : (a b : Ordering) → b ≡ ordering_reverse a → is_lt b ≡ false → is_gt a ≡ false
  not-behind Less b e p = refl
  not-behind Equal b e p = refl
  not-behind Greater b e p = absurd (lesser b e p)
    where
      lesser : (b : Ordering) → b ≡ Less → is_lt b ≡ false → ⊥
      lesser Less e p = cc
      lesser Equal e p = cc
      lesser Greater e p = cc

  first-of : (x : X) (xs : List X) → ((k : ℕ) → k < length xs → less (get_or xs k x) x ≡ false) → IsAtFront cmp x xs
  first-of x [] h = tt
  first-of x (y ∷ ys) h = (not-behind (cmp x y) (cmp y x) (o.antisymm y x) (h 0 (omega arith)), first-of x ys (λ k p. h (suc k) (omega arith)))

  in-order : (xs : List X) → ((i j : ℕ) (d : X) → i ≤ j → j < length xs → less (get_or xs j d) (get_or xs i d) ≡ false) → IsInOrder cmp xs
  in-order [] h = tt
  in-order (x ∷ xs) h = (first-of x xs (λ k p. h 0 (suc k) x (omega arith) (omega arith)), in-order xs (λ i j d p q. h (suc i) (suc j) d (omega arith) (omega arith)))

  -- ---- the list in order has those that tie as they stood

  tied-upto : (a b : Ordering) → (not (is_lt a) && not (is_lt b)) ≡ true → b ≡ ordering_reverse a → a ≡ Equal
  tied-upto Less b h e = cc
  tied-upto Equal b h e = refl
  tied-upto Greater b h e = absurd (lesser b e h)
    where
      lesser : (b : Ordering) → b ≡ Less → not (is_lt b) ≡ true → ⊥
      lesser Less e p = cc
      lesser Equal e p = cc
      lesser Greater e p = cc

  equal-by-tie : (z x : X) → ties less z x ≡ true → cmp z x ≡ Equal
  equal-by-tie z x h = tied-upto (cmp z x) (cmp x z) h (o.antisymm x z)

  both-tied : (z x y : X) → ties less z x ≡ true → ties less z y ≡ true → is_gt (cmp x y) ≡ false
  both-tied z x y hx hy = not-greater x y (sym (o.congr z x y (equal-by-tie z x hx)) ∙ equal-by-tie z y hy)

  kept-front : (z x : X) (xs : List X) → ties less z x ≡ true → IsAtFront cmp x (filter (ties less z) xs)
  kept-front z x [] h = tt
  kept-front z x (y ∷ ys) h = elim (cases_Bool (ties less z y)) [
    | inl t ↦ rw t (both-tied z x y h t, kept-front z x ys h)
    | inr f ↦ rw f (kept-front z x ys h)
  ]

  kept-stays : (z : X) (xs : List X) → in_order cmp (filter (ties less z) xs) ≡ filter (ties less z) xs
  kept-stays z [] = refl
  kept-stays z (x ∷ xs) = elim (cases_Bool (ties less z x)) [
    | inl t ↦ rw t (rw (kept-stays z xs) (place_in-front cmp o x (filter (ties less z) xs) (kept-front z x xs t)))
    | inr f ↦ rw f (kept-stays z xs)
  ]

  -- what std's stable sort gives, where each call of its closure compares by this order
  pub sorted-by-closure : {F : Type 0} {g : Mut F (Bor X × (Bor X × Unit {0})) Ordering} {f : F} (xs ys : List X) → IsSortedByClosure g f ys → IsStableByClosure g f xs ys
      → ((a : Bor X × (Bor X × Unit {0})) (r : Ordering) (f' : F) → Called g f a r f' → (r ≡ cmp a.0.now a.1.0.now) × (f' ≡ f)) → ys ≡ in_order cmp xs
  sorted-by-closure {g = g} {f = f} xs ys up stable h =
      let answers = always_returns_same g (λ a r. is_lt r ≡ is_lt (cmp a.0.now a.1.0.now)) f (λ a r f' k. (ap is_lt (h a r f' k).0, (h a r f' k).1)) in
      one-list ys (in_order cmp xs) (in-order ys (sorted_far less (ranks_by o (λ x. x)) ys (up less (ranks_by o (λ x. x)) answers))) (IsInOrder-in_order cmp o xs)
      (λ x. stable less (ranks_by o (λ x. x)) answers x ∙ sym (filter-in_order cmp o (ties less x) xs ∙ kept-stays x xs))
