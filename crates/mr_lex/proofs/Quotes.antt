-- What is in quotes ends at one place.
use Rattle.std.proofs.Common.{◌≡◌, ℕ, zero, suc, ◌+◌, ◌<◌, ◌≤◌, List, [], ◌∷◌, length, take, drop, Some, None, Option, refl, ap, sym, ◌∙◌, Bool, true, false, not, arith, inl, inr, ◌==◌, ◌&&◌}
use Rattle.std.proofs.lemmas.Bool.Decides.{nat_tests}
use Rattle.std.proofs.lemmas.Bool.{eqb-true}
use Rattle.mr_lex.specs.Bytes.{is_within, is_hex_digit, starts}
use Rattle.mr_lex.specs.Quoted.{closes, closes_pairs}
use Rattle.mr_lex.specs.Fronts.{quoted_end, pairs_end}
use Rattle.mr_lex.proofs.Lists.{tells, same, apart}

abbrev pub is_at : ℕ → Option ℕ → Bool
is_at n None = false
is_at n (Some x) = n == x

abbrev pub IsBetween : ℕ → ℕ → Option ℕ → Type 0
IsBetween least most None = Unit {0}
IsBetween least most (Some x) = (least < x) × (x ≤ most)

pub between_more : (a b c d : ℕ) (o : Option ℕ) → c ≤ a → b ≤ d → IsBetween a b o → IsBetween c d o
between_more a b c d None x y h = tt
between_more a b c d (Some n) x y h = (omega (arith, h.0, x), omega (arith, h.1, y))

pub not_at : (n a b : ℕ) (o : Option ℕ) → n ≤ a → IsBetween a b o → is_at n o ≡ false
not_at n a b None l h = refl
not_at n a b (Some x) l h = apart n x (omega (arith, l, h.0))

module _ (quote : ℕ) (escapes : Bool) (least most : ℕ) where
  pub quoted_between : (at : ℕ) (s : List ℕ) → IsBetween at (at + length s) (quoted_end quote escapes least most at s)
  quoted_between at [] = tt
  quoted_between at (a ∷ []) = elim (tells (a == quote)) [
    | inl y ↦ rw y (omega arith, omega arith)
    | inr n ↦ rw n tt
  ]
  quoted_between at (a ∷ b ∷ bs) = elim (tells (a == quote)) [
    | inl y ↦ elim (tells (b == quote)) [
      | inl z ↦ rw (y, z) (between_more (at + 2) (at + 2 + length bs) at (at + length (a ∷ b ∷ bs)) (quoted_end quote escapes least most (at + 2) bs) (omega arith) (omega arith) (quoted_between (at + 2) bs))
      | inr z ↦ rw (y, z) (omega arith, omega arith)
    ]
    | inr n ↦ elim (tells (escapes && a == 92)) [
      | inl e ↦ elim (tells (is_within least most b)) [
        | inl w ↦ rw (n, e, w) (between_more (at + 2) (at + 2 + length bs) at (at + length (a ∷ b ∷ bs)) (quoted_end quote escapes least most (at + 2) bs) (omega arith) (omega arith) (quoted_between (at + 2) bs))
        | inr w ↦ rw (n, e, w) tt
      ]
      | inr e ↦ elim (tells (is_within least most a)) [
        | inl w ↦ rw (n, e, w) (between_more (at + 1) (at + 1 + length (b ∷ bs)) at (at + length (a ∷ b ∷ bs)) (quoted_end quote escapes least most (at + 1) (b ∷ bs)) (omega arith) (omega arith) (quoted_between (at + 1) (b ∷ bs)))
        | inr w ↦ rw (n, e, w) tt
      ]
    ]
  ]

  -- the bytes close, and the quote doesn't stand behind them once more, at the end alone
  pub quoted_at : (at k : ℕ) (s : List ℕ) → k ≤ length s
      → (closes quote escapes least most (take k s) && not (starts (λ b. b == quote) (drop k s))) ≡ is_at (at + k) (quoted_end quote escapes least most at s)
  quoted_at at zero s l = sym (not_at (at + 0) at (at + length s) (quoted_end quote escapes least most at s) (omega arith) (quoted_between at s))
  quoted_at at (suc k) [] l = absurd (omega (arith, l))
  quoted_at at (suc zero) (a ∷ []) l = elim (tells (a == quote)) [
    | inl y ↦ rw y (sym (same (at + 1) (at + 1) refl))
    | inr n ↦ rw n refl
  ]
  quoted_at at (suc (suc k)) (a ∷ []) l = absurd (omega (arith, l))
  quoted_at at (suc zero) (a ∷ b ∷ bs) l = elim (tells (a == quote)) [
    | inl y ↦ elim (tells (b == quote)) [
      | inl z ↦ rw (y, z) (sym (not_at (at + 1) (at + 2) (at + 2 + length bs) (quoted_end quote escapes least most (at + 2) bs) (omega arith) (quoted_between (at + 2) bs)))
      | inr z ↦ rw (y, z) (sym (same (at + 1) (at + 1) refl))
    ]
    | inr n ↦ elim (tells (escapes && a == 92)) [
      | inl e ↦ elim (tells (is_within least most b)) [
        | inl w ↦ rw (n, e, w) (sym (not_at (at + 1) (at + 2) (at + 2 + length bs) (quoted_end quote escapes least most (at + 2) bs) (omega arith) (quoted_between (at + 2) bs)))
        | inr w ↦ rw (n, e, w) refl
      ]
      | inr e ↦ elim (tells (is_within least most a)) [
        | inl w ↦ rw (n, e, w) (sym (not_at (at + 1) (at + 1) (at + 1 + length (b ∷ bs)) (quoted_end quote escapes least most (at + 1) (b ∷ bs)) (omega arith) (quoted_between (at + 1) (b ∷ bs))))
        | inr w ↦ rw (n, e, w) refl
      ]
    ]
  ]
  quoted_at at (suc (suc k)) (a ∷ b ∷ bs) l = elim (tells (a == quote)) [
    | inl y ↦ elim (tells (b == quote)) [
      | inl z ↦ rw (y, z) (quoted_at (at + 2) k bs (omega (arith, l)) ∙ ap (λ n. is_at n (quoted_end quote escapes least most (at + 2) bs)) (let e : at + 2 + k ≡ at + suc (suc k) = omega arith in e))
      | inr z ↦ rw (y, z) (sym (apart_over (at + suc (suc k)) (at + 1) (omega arith)))
    ]
    | inr n ↦ elim (tells (escapes && a == 92)) [
      | inl e ↦ elim (tells (is_within least most b)) [
        | inl w ↦ rw (n, e, w) (quoted_at (at + 2) k bs (omega (arith, l)) ∙ ap (λ n. is_at n (quoted_end quote escapes least most (at + 2) bs)) (let e : at + 2 + k ≡ at + suc (suc k) = omega arith in e))
        | inr w ↦ rw (n, e, w) refl
      ]
      | inr e ↦ elim (tells (is_within least most a)) [
        | inl w ↦ rw (n, e, w) (quoted_at (at + 1) (suc k) (b ∷ bs) (omega (arith, l)) ∙ ap (λ n. is_at n (quoted_end quote escapes least most (at + 1) (b ∷ bs))) (let e : at + 1 + suc k ≡ at + suc (suc k) = omega arith in e))
        | inr w ↦ rw (n, e, w) refl
      ]
    ]
  ]
    where
      apart_over : (m n : ℕ) → n < m → (m == n) ≡ false
      apart_over m n l = grind (arith, nat_tests)

pub pairs_between : (at : ℕ) (s : List ℕ) → IsBetween at (at + length s) (pairs_end at s)
pairs_between at [] = tt
pairs_between at (a ∷ []) = elim (tells (a == 39)) [
  | inl y ↦ rw y (omega arith, omega arith)
  | inr n ↦ rw n tt
]
pairs_between at (a ∷ b ∷ bs) = elim (tells (a == 39)) [
  | inl y ↦ rw y (omega arith, omega arith)
  | inr n ↦ elim (tells (is_hex_digit a && is_hex_digit b)) [
    | inl h ↦ rw (n, h) (between_more (at + 2) (at + 2 + length bs) at (at + length (a ∷ b ∷ bs)) (pairs_end (at + 2) bs) (omega arith) (omega arith) (pairs_between (at + 2) bs))
    | inr h ↦ rw (n, h) tt
  ]
]

no_digit : (a : ℕ) → (a == 39) ≡ true → is_hex_digit a ≡ false
no_digit a y = let e : a ≡ 39 = eqb-true a 39 y in rw e refl

pub pairs_at : (at k : ℕ) (s : List ℕ) → k ≤ length s → closes_pairs (take k s) ≡ is_at (at + k) (pairs_end at s)
pairs_at at zero s l = sym (not_at (at + 0) at (at + length s) (pairs_end at s) (omega arith) (pairs_between at s))
pairs_at at (suc k) [] l = absurd (omega (arith, l))
pairs_at at (suc zero) (a ∷ []) l = elim (tells (a == 39)) [
  | inl y ↦ rw y (sym (same (at + 1) (at + 1) refl))
  | inr n ↦ rw n refl
]
pairs_at at (suc (suc k)) (a ∷ []) l = absurd (omega (arith, l))
pairs_at at (suc zero) (a ∷ b ∷ bs) l = elim (tells (a == 39)) [
  | inl y ↦ rw y (sym (same (at + 1) (at + 1) refl))
  | inr n ↦ elim (tells (is_hex_digit a && is_hex_digit b)) [
    | inl h ↦ rw (n, h) (sym (not_at (at + 1) (at + 2) (at + 2 + length bs) (pairs_end (at + 2) bs) (omega arith) (pairs_between (at + 2) bs)))
    | inr h ↦ rw (n, h) refl
  ]
]
pairs_at at (suc (suc k)) (a ∷ b ∷ bs) l = elim (tells (a == 39)) [
  | inl y ↦ rw (y, no_digit a y) (sym (apart_over (at + suc (suc k)) (at + 1) (omega arith)))
  | inr n ↦ elim (tells (is_hex_digit a && is_hex_digit b)) [
    | inl h ↦ rw (n, h) (pairs_at (at + 2) k bs (omega (arith, l)) ∙ ap (λ n. is_at n (pairs_end (at + 2) bs)) (let e : at + 2 + k ≡ at + suc (suc k) = omega arith in e))
    | inr h ↦ rw (n, h) refl
  ]
]
  where
    apart_over : (m n : ℕ) → n < m → (m == n) ≡ false
    apart_over m n l = grind (arith, nat_tests)
