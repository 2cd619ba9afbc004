-- The first difference decides.
use Rattle.std.proofs.Common.{◌≡◌, ◌≢◌, ℕ, zero, suc, ◌<◌, List, [], ◌∷◌, length, get_or, nat_eq, refl, sym, ◌∙◌, arith, inl, inr}
use Rattle.std.specs.Ordering.{nat_cmp}
use Rattle.std.specs.List.{common_prefix_len}
use Rattle.std.proofs.lemmas.Bool.{cases_eq, cases_lt, eq-eqb, ne_eqb}
use Rattle.std.proofs.lemmas.Bool.Decides.{nat_tests}
use Rattle.std.specs.Cmp.Lexicographic.{slice_cmp}
use Rattle.std.specs.declared.cmp.Ordering.{Ordering}
use Rattle.std.specs.declared.cmp.Ordering.TheVariants.{Less, Equal, Greater}

abbrev bytes_cmp : List ℕ → List ℕ → Ordering
bytes_cmp a b = slice_cmp nat_cmp a b

cmp_same : (m : ℕ) → nat_cmp m m ≡ Equal
cmp_same m = grind (arith, nat_tests)

cmp_less : (m n : ℕ) → m < n → nat_cmp m n ≡ Less
cmp_less m n lt = grind (arith, nat_tests)

cmp_greater : (m n : ℕ) → n < m → nat_cmp m n ≡ Greater
cmp_greater m n lt = grind (arith, nat_tests)

abbrev front : List ℕ → List ℕ → ℕ
front a b = common_prefix_len nat_eq a b

front_same : (x y : ℕ) (a b : List ℕ) → x ≡ y → front (x ∷ a) (y ∷ b) ≡ suc (front a b)
front_same x y a b e = rw (eq-eqb x y e) (omega arith)

front_other : (x y : ℕ) (a b : List ℕ) → x ≢ y → front (x ∷ a) (y ∷ b) ≡ 0
front_other x y a b e = rw (ne_eqb x y e) refl

shifted : (m n : ℕ) → nat_cmp (suc m) (suc n) ≡ nat_cmp m n
shifted m n = grind (arith, nat_tests)

-- two heads that differ decide
decided : (x y : ℕ) (a b : List ℕ) → x ≢ y → bytes_cmp (x ∷ a) (y ∷ b) ≡ nat_cmp x y
decided x y a b e =
    elim (cases_lt x y) [
      | inl less ↦ rw (cmp_less x y less) refl
      | inr not_less ↦ rw (cmp_greater x y (omega arith)) refl
    ]

-- two heads that are one do not
tied : (x y : ℕ) (a b : List ℕ) → x ≡ y → bytes_cmp (x ∷ a) (y ∷ b) ≡ bytes_cmp a b
tied x y a b e = rw (e, cmp_same y) refl

heads_same : (x y : ℕ) (a b : List ℕ) (n : ℕ) → suc n ≡ front (x ∷ a) (y ∷ b) → (x ≡ y) × (n ≡ front a b)
heads_same x y a b n e =
    elim (cases_eq x y) [
      | inl same ↦ let f = front_same x y a b same in (same, omega arith)
      | inr other ↦ let f = front_other x y a b other in absurd (omega arith)
    ]

pub at_difference : (a b : List ℕ) (n : ℕ) → n ≡ front a b → n < length a → n < length b → bytes_cmp a b ≡ nat_cmp (get_or a n 0) (get_or b n 0)
at_difference [] b n e p q = absurd (omega arith)
at_difference (x ∷ a) [] n e p q = absurd (omega arith)
at_difference (x ∷ a) (y ∷ b) zero e p q =
    decided x y a b (λ same. let f = front_same x y a b same in omega arith)
at_difference (x ∷ a) (y ∷ b) (suc n) e p q =
    let s = heads_same x y a b n e in
    tied x y a b s.0 ∙ at_difference a b n s.1 (omega arith) (omega arith)

pub no_difference : (a b : List ℕ) (n : ℕ) → n ≡ front a b → (n < length a → n < length b → ⊥) → bytes_cmp a b ≡ nat_cmp (length a) (length b)
no_difference [] [] n e h = refl
no_difference [] (y ∷ b) n e h = sym (cmp_less 0 (suc (length b)) (omega arith))
no_difference (x ∷ a) [] n e h = sym (cmp_greater (suc (length a)) 0 (omega arith))
no_difference (x ∷ a) (y ∷ b) zero e h = absurd (h (omega arith) (omega arith))
no_difference (x ∷ a) (y ∷ b) (suc n) e h =
    let s = heads_same x y a b n e in
    tied x y a b s.0 ∙ no_difference a b n s.1 (λ p q. h (omega arith) (omega arith)) ∙ sym (shifted (length a) (length b))
