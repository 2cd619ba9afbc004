-- Bytes in front of others.
use Rattle.std.proofs.Common.{◌≡◌, ℕ, ◌+◌, List, [], ◌∷◌, length, take, drop, Some, None, Option, refl, ap, sym, ◌∙◌, true, false, inl, inr, nat_eq, Bor}
use Rattle.std.specs.Option.{MatchOption, option_map}
use Rattle.std.specs.Cmp.Lexicographic.{pointwise}
use Rattle.std.proofs.lemmas.Bool.{eq-eqb}
use Rattle.std.proofs.lemmas.Bool.Decides.{eqb_tells}
use Rattle.mr_spec.specs.TtlOptions.{behind}

behind_true : (front bytes : List ℕ) → pointwise nat_eq (take (length front) bytes) front ≡ true → behind front bytes ≡ Some (drop (length front) bytes)
behind_true [] bytes e = refl
behind_true (a ∷ front) [] e = cc
behind_true (a ∷ front) (b ∷ bytes) e = elim (eqb_tells b a) [
  | inl (t, same) ↦ let e' : pointwise nat_eq (take (length front) bytes) front ≡ true = rw t at e in rw (eq-eqb a b (sym same)) (behind_true front bytes e')
  | inr (t, other) ↦ let e' : false ≡ true = rw t at e in cc
]

behind_false : (front bytes : List ℕ) → pointwise nat_eq (take (length front) bytes) front ≡ false → behind front bytes ≡ None
behind_false [] bytes e = cc
behind_false (a ∷ front) [] e = refl
behind_false (a ∷ front) (b ∷ bytes) e = elim (eqb_tells a b) [
  | inl (t, same) ↦ let t' : nat_eq b a ≡ true = eq-eqb b a (sym same) in let e' : pointwise nat_eq (take (length front) bytes) front ≡ false = rw t' at e in rw t (behind_false front bytes e')
  | inr (t, other) ↦ rw t refl
]

pub behind_is : (front bytes : List ℕ) (r : Option (Bor (List ℕ)))
    → MatchOption r (pointwise nat_eq (take (length front) bytes) front ≡ false) (λ x. (pointwise nat_eq (take (length front) bytes) front ≡ true) × (x.now ≡ drop (length front) bytes) × (length x.now + length front ≡ length bytes))
    → option_map (λ r. r.now) r ≡ behind front bytes
behind_is front bytes None h = sym (behind_false front bytes h)
behind_is front bytes (Some x) h = ap Some (h.1) ∙ sym (behind_true front bytes h.0)
