-- Numbers of decimal digits.
use Rattle.std.proofs.Common.{◌≡◌, ℕ, ◌+◌, ◌*◌, ◌/◌, ◌-◌, ◌^◌, ◌<◌, ◌≤◌, List, [], ◌∷◌, length, map, drop, get_or, ap, sym, ◌∙◌, arith, true, false, ◌&&◌, nat_le, lit<}
use Rattle.std.specs.List.{list_all}
use Rattle.std.specs.Int.Digits.{number_from_digits_after, AllBelowBase}
use Rattle.std.proofs.lemmas.Int.Digits.{number_lt, number_after_ge}
use Rattle.std.proofs.lemmas.Bool.Decides.{nat_tests}
use Rattle.std.proofs.lemmas.List.{drop_more, length-map}
use Rattle.std.proofs.Math.Nat.{pow-le-pow_right}
use Rattle.mr_lex.specs.Bytes.{is_digit}
use Rattle.mr_lex.specs.Tokens.{number_of}
use Rattle.mr_lex.proofs.Lists.{and_first, and_second}

pub digit_low : (b : ℕ) → is_digit b ≡ true → 48 ≤ b
digit_low b h = grind (arith, nat_tests)

pub digit_high : (b : ℕ) → is_digit b ≡ true → b - 48 < 10
digit_high b h = grind (arith, nat_tests)

pub below_base : (digits : List ℕ) → list_all is_digit digits ≡ true → AllBelowBase 10 (map (λ b. b - 48) digits)
below_base [] h = tt
below_base (b ∷ bs) h = (digit_high b (and_first (is_digit b) (list_all is_digit bs) h), below_base bs (and_second (is_digit b) (list_all is_digit bs) h))

pub few_digits : (digits : List ℕ) → list_all is_digit digits ≡ true → length digits ≤ 38 → true ≡ nat_le (number_of digits) 170141183460469231731687303715884105727
few_digits digits h l =
    let small : number_of digits < 10 ^ length (map (λ b. b - 48) digits) = number_lt 10 (map (λ b. b - 48) digits) (below_base digits h) in
    let n : length (map (λ b. b - 48) digits) ≤ 38 = rw length-map l in
    let up : 10 ^ length (map (λ b. b - 48) digits) ≤ 10 ^ 38 = pow-le-pow_right (let p : 0 < 10 = lit< tt in p) n in
    let top : 10 ^ 38 < 170141183460469231731687303715884105727 = lit< tt in
    sym (fits (number_of digits) (omega (arith, small, up, top)))
  where
    fits : (n : ℕ) → n ≤ 170141183460469231731687303715884105727 → nat_le n 170141183460469231731687303715884105727 ≡ true
    fits n h = grind (arith, nat_tests)

pub digits_next : (digits : List ℕ) (i value : ℕ) → i < length digits
    → number_from_digits_after 10 value (map (λ b. b - 48) (drop i digits)) ≡ number_from_digits_after 10 (value * 10 + (get_or digits i 0 - 48)) (map (λ b. b - 48) (drop (i + 1) digits))
digits_next digits i value h = ap (λ s. number_from_digits_after 10 value (map (λ b. b - 48) s)) (drop_more digits i 0 h)

pub digits_left : (digits : List ℕ) (i : ℕ) → i < length digits → list_all is_digit (drop i digits) ≡ true
    → (is_digit (get_or digits i 0) ≡ true) × (list_all is_digit (drop (i + 1) digits) ≡ true)
digits_left digits i h all =
    let both : (is_digit (get_or digits i 0) && list_all is_digit (drop (i + 1) digits)) ≡ true = ap (list_all is_digit) (sym (drop_more digits i 0 h)) ∙ all in
    (and_first _ _ both, and_second _ _ both)

-- once too large, too large
pub too_large : (digits : List ℕ) (i value : ℕ) → i < length digits → (170141183460469231731687303715884105727 - (get_or digits i 0 - 48)) / 10 < value
    → is_digit (get_or digits i 0) ≡ true
    → number_from_digits_after 10 value (map (λ b. b - 48) (drop i digits)) ≡ number_of digits → false ≡ nat_le (number_of digits) 170141183460469231731687303715884105727
too_large digits i value h large is same =
    let next : number_from_digits_after 10 (value * 10 + (get_or digits i 0 - 48)) (map (λ b. b - 48) (drop (i + 1) digits)) ≡ number_of digits = sym (digits_next digits i value h) ∙ same in
    let up = number_after_ge 10 (value * 10 + (get_or digits i 0 - 48)) (map (λ b. b - 48) (drop (i + 1) digits)) (let p : 0 < 10 = lit< tt in p) in
    let low : get_or digits i 0 - 48 < 10 = digit_high _ is in
    let more : 170141183460469231731687303715884105727 < value * 10 + (get_or digits i 0 - 48) = over value (get_or digits i 0 - 48) low large in
    sym (fits (number_of digits) (omega (arith, next, up, more)))
  where
    fits : (n : ℕ) → 170141183460469231731687303715884105727 < n → nat_le n 170141183460469231731687303715884105727 ≡ false
    fits n h = grind (arith, nat_tests)

    over : (value d : ℕ) → d < 10 → (170141183460469231731687303715884105727 - d) / 10 < value → 170141183460469231731687303715884105727 < value * 10 + d
    over value d h l = omega arith
