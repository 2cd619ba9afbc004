-- Elements by recursion, and by their places.
use Rattle.std.proofs.Common.{◌⊎◌, inl, inr, ◌≡◌, List, [], ◌∷◌, Contains, refl, sym, subst, arith}
use Rattle.std.specs.Prelude.{◌↔◌}
use Rattle.std.proofs.lemmas.List.Elements.{Contains-append_right, Contains-append_cases, Contains-push_cases}
use Rattle.mr_sound.specs.Sound.{IsIn}

contained : {A : Type 0} (x : A) (xs : List A) → IsIn x xs → Contains xs x
contained x [] i = absurd i
contained x (y ∷ ys) (inl e) = subst (λ z. Contains (z ∷ ys) x) (sym e) (0, omega arith, refl)
contained x (y ∷ ys) (inr i) = Contains-append_right (y ∷ []) ys x (contained x ys i)

no-element : {A : Type 0} (x : A) → Contains [] x → ⊥
no-element x at = omega (arith, at.1)

contains-cases : {A : Type 0} (y : A) (ys : List A) (x : A) → Contains (y ∷ ys) x → (y ≡ x) ⊎ Contains ys x
contains-cases y ys x at = of_one (Contains-append_cases (y ∷ []) ys x at)
  where
    of_push : Contains [] x ⊎ (y ≡ x) → (y ≡ x) ⊎ Contains ys x
    of_push (inl h) = absurd (no-element x h)
    of_push (inr e) = inl e

    of_one : Contains (y ∷ []) x ⊎ Contains ys x → (y ≡ x) ⊎ Contains ys x
    of_one (inl h) = of_push (Contains-push_cases [] y x h)
    of_one (inr h) = inr h

in-list : {A : Type 0} (x : A) (xs : List A) → Contains xs x → IsIn x xs
in-list x [] at = absurd (no-element x at)
in-list x (y ∷ ys) at = elim (contains-cases y ys x at) [ inl e ↦ inl e | inr h ↦ inr (in-list x ys h) ]

pub in-contains : {A : Type 0} (x : A) (xs : List A) → IsIn x xs ↔ Contains xs x
in-contains x xs = (contained x xs, in-list x xs)
