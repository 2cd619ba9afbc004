-- Lists one and two elements on, and tests.
use Rattle.std.proofs.Common.{◌≡◌, ℕ, zero, suc, ◌+◌, ◌<◌, ◌≤◌, List, [], ◌∷◌, length, drop, take, get_or, refl, ap, ◌∙◌, arith, Bool, true, false, ◌==◌, ◌&&◌, inl, inr, ◌⊎◌}
use Rattle.std.proofs.lemmas.List.{drop_more, drop_all}
use Rattle.std.proofs.lemmas.Bool.Decides.{nat_tests}

pub tells : (b : Bool) → (b ≡ true) ⊎ (b ≡ false)
tells true = inl refl
tells false = inr refl

pub not_same : (a b : ℕ) → (a ≡ b → ⊥) → (a == b) ≡ false
not_same a b n = grind (arith, nat_tests)

pub same : (a b : ℕ) → a ≡ b → (a == b) ≡ true
same a b e = grind (arith, nat_tests)

pub drop_two : (s : List ℕ) (i : ℕ) → i + 1 < length s → drop i s ≡ get_or s i 0 ∷ get_or s (i + 1) 0 ∷ drop (i + 2) s
drop_two s i h =
    let one : drop i s ≡ get_or s i 0 ∷ drop (i + 1) s = drop_more s i 0 (omega (arith, h)) in
    let two : drop (i + 1) s ≡ get_or s (i + 1) 0 ∷ drop (i + 1 + 1) s = drop_more s (i + 1) 0 h in
    let e : i + 1 + 1 ≡ i + 2 = omega arith in
    one ∙ ap (λ t. get_or s i 0 ∷ t) (two ∙ ap (λ n. get_or s (i + 1) 0 ∷ drop n s) e)

pub drop_last : (s : List ℕ) (i : ℕ) → i < length s → length s ≤ i + 1 → drop i s ≡ get_or s i 0 ∷ []
drop_last s i h n = drop_more s i 0 h ∙ ap (λ t. get_or s i 0 ∷ t) (drop_all (i + 1) s n)

pub and_no : (a b : Bool) → b ≡ false → (a && b) ≡ false
and_no true b e = e
and_no false b e = refl

pub no_both : (a x b y : ℕ) → (a ≡ x → ⊥) ⊎ (b ≡ y → ⊥) → (a == x && b == y) ≡ false
no_both a x b y (inl n) = ap (λ t. t && b == y) (not_same a x n)
no_both a x b y (inr n) = and_no (a == x) (b == y) (not_same b y n)

pub no_and : (a b : Bool) → a ≡ false → (a && b) ≡ false
no_and a b e = ap (λ t. t && b) e

pub both_yes : (a b : Bool) → a ≡ true → b ≡ true → (a && b) ≡ true
both_yes a b x y = ap (λ t. t && b) x ∙ y

pub and_first : (a b : Bool) → (a && b) ≡ true → a ≡ true
and_first true b h = refl
and_first false b h = h

pub and_second : (a b : Bool) → (a && b) ≡ true → b ≡ true
and_second true b h = h
and_second false b h = cc

pub apart : (m n : ℕ) → m < n → (m == n) ≡ false
apart m n l = grind (arith, nat_tests)

pub length-take-le : (k : ℕ) (s : List ℕ) → length (take k s) ≤ k
length-take-le zero s = omega arith
length-take-le (suc k) [] = omega arith
length-take-le (suc k) (b ∷ bs) = let h = length-take-le k bs in omega (arith, h)
