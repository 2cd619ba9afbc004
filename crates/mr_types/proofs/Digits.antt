-- The number that decimal digits write.
use Rattle.std.proofs.Common.{◌≡◌, ℕ, zero, suc, ◌+◌, ◌-◌, ◌*◌, ◌^◌, ◌<◌, ◌≤◌, List, [], ◌∷◌, ◌++◌, length, take, get_or, refl, sym, ap, ◌∙◌, arith, true, pow-suc, mul_comm, mul_assoc}
use Rattle.std.specs.List.{list_all}
use Rattle.std.specs.Prelude.{nat_le}
use Rattle.std.proofs.Math.Nat.{pow-le-pow_right, mul-le-mul_right}
use Rattle.std.proofs.lemmas.Bool.{and_parts, and_from, leb-true}
use Rattle.std.proofs.lemmas.List.{take_more, length-take}
use Rattle.mr_types.specs.Values.{is_digit, number_from}

digit_bounds : (b : ℕ) → is_digit b ≡ true → (48 ≤ b) × (b ≤ 57)
digit_bounds b h = let parts = and_parts (nat_le 48 b) (nat_le b 57) h in (leb-true 48 b parts.0, leb-true b 57 parts.1)

pub digit_at : (xs : List ℕ) (i : ℕ) → list_all is_digit xs ≡ true → i < length xs → (48 ≤ get_or xs i 0) × (get_or xs i 0 ≤ 57)
digit_at [] i h within = absurd (omega arith)
digit_at (x ∷ xs) zero h within = digit_bounds x (and_parts (is_digit x) (list_all is_digit xs) h).0
digit_at (x ∷ xs) (suc i) h within = digit_at xs i (and_parts (is_digit x) (list_all is_digit xs) h).1 (omega arith)

digits_take : (i : ℕ) (xs : List ℕ) → list_all is_digit xs ≡ true → list_all is_digit (take i xs) ≡ true
digits_take zero xs h = refl
digits_take (suc i) [] h = refl
digits_take (suc i) (x ∷ xs) h =
    let parts = and_parts (is_digit x) (list_all is_digit xs) h in
    and_from (is_digit x) (list_all is_digit (take i xs)) parts.0 (digits_take i xs parts.1)

digits_bound : (n : ℕ) (xs : List ℕ) → list_all is_digit xs ≡ true → number_from n xs < (n + 1) * 10 ^ length xs
digits_bound n [] h = omega arith
digits_bound n (x ∷ xs) h =
    let parts = and_parts (is_digit x) (list_all is_digit xs) h in
    let d = digit_bounds x parts.0 in
    let rest = digits_bound (10 * n + (x - 48)) xs parts.1 in
    let p : ℕ = 10 ^ length xs in
    let power : 10 ^ suc (length xs) ≡ p * 10 = pow-suc 10 (length xs) in
    let more : (10 * n + (x - 48) + 1) * p ≤ (10 * n + 10) * p = mul-le-mul_right p (omega arith) in
    let wide : (n + 1) * (p * 10) ≡ (10 * n + 10) * p =
    ap (λ (k : ℕ). (n + 1) * k) (mul_comm p 10) ∙ sym (mul_assoc (n + 1) 10 p) ∙ ap (λ (k : ℕ). k * p) (omega arith) in
    rw (power, wide) (omega arith)

number_more : (n : ℕ) (xs : List ℕ) (y : ℕ) → number_from n (xs ++ y ∷ []) ≡ 10 * number_from n xs + (y - 48)
number_more n [] y = refl
number_more n (x ∷ xs) y = number_more (10 * n + (x - 48)) xs y

pub number_small : (xs : List ℕ) (i : ℕ) → list_all is_digit xs ≡ true → i ≤ length xs → i ≤ 38 → number_from 0 (take i xs) < 10 ^ 38
number_small xs i h within few =
    let size : length (take i xs) ≡ i = omega (arith, length-take i xs) in
    let b = digits_bound 0 (take i xs) (digits_take i xs h) in
    let c = pow-le-pow_right {n = 10} (omega arith) {i = i} {j = 38} few in
    let d : number_from 0 (take i xs) < 1 * 10 ^ i = rw size at b in
    omega arith

pub number_less : (xs : List ℕ) (i : ℕ) → list_all is_digit xs ≡ true → i ≤ length xs → i ≤ 37 → number_from 0 (take i xs) < 10 ^ 37
number_less xs i h within few =
    let size : length (take i xs) ≡ i = omega (arith, length-take i xs) in
    let b = digits_bound 0 (take i xs) (digits_take i xs h) in
    let c = pow-le-pow_right {n = 10} (omega arith) {i = i} {j = 37} few in
    let d : number_from 0 (take i xs) < 1 * 10 ^ i = rw size at b in
    omega arith

pub number_step : (xs : List ℕ) (i : ℕ) → i < length xs → number_from 0 (take (i + 1) xs) ≡ 10 * number_from 0 (take i xs) + (get_or xs i 0 - 48)
number_step xs i within = ap (number_from 0) (take_more xs i 0 within) ∙ number_more 0 (take i xs) (get_or xs i 0)
