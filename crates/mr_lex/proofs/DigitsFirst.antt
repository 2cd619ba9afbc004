-- The token in front, where a digit begins it.
use Rattle.std.proofs.Common.{◌≡◌, ℕ, zero, suc, ◌+◌, ◌-◌, ◌^◌, ◌<◌, ◌≤◌, List, [], ◌∷◌, length, take, drop, Some, None, refl, ap, sym, ◌∙◌, Bool, true, false, not, arith, inl, inr, ◌⊎◌, ◌==◌, ◌&&◌, ◌||◌, if◌then◌else◌, nat_le}
use Rattle.std.proofs.lemmas.Bool.{eqb-true}
use Rattle.std.proofs.lemmas.Bool.Decides.{nat_tests}
use Rattle.std.specs.List.{prefix_len, list_all}
use Rattle.std.proofs.lemmas.List.Sums.{prefix_len-le-length}
use Rattle.mr_lex.specs.Bytes.{is_word_byte, is_letter, is_digit, is_hex_digit, starts}
use Rattle.mr_lex.specs.Fronts.{begins_hex, digits_front, if_so}
use Rattle.mr_lex.specs.Tokens.{kind_at, first_token, digits_kind, is_hex_number, number_of, where_holds}
use Rattle.mr_lex.specs.declared.token.TokenKind.TheVariants.{Number, Bytes}
use Rattle.mr_lex.proofs.Lists.{tells, same, and_first, and_second, and_no}
use Rattle.mr_lex.proofs.Munch.{all_prefix, past_prefix, is_first, only_first, at_length, IsWithin}

-- a digit stands behind a shorter front of the digits
digit_behind : (t : List ℕ) (m : ℕ) → m < prefix_len is_digit t → starts is_word_byte (drop m t) ≡ true
digit_behind [] m l = absurd (omega (arith, l))
digit_behind (b ∷ bs) zero l = elim (tells (is_digit b)) [
  | inl y ↦ word_byte b y
  | inr n ↦ let l' = rw n at l in absurd (omega (arith, l'))
]
  where
    or_yes : (a c : Bool) → c ≡ true → (a || c) ≡ true
    or_yes true c e = refl
    or_yes false c e = e

    word_byte : (b : ℕ) → is_digit b ≡ true → is_word_byte b ≡ true
    word_byte b y = or_yes (is_letter b) (is_digit b) y
digit_behind (b ∷ bs) (suc m) l = elim (tells (is_digit b)) [
  | inl y ↦ digit_behind bs m (let l' = rw y at l in omega (arith, l'))
  | inr n ↦ let l' = rw n at l in absurd (omega (arith, l'))
]

-- a front is a number of hexadecimal digits only where one begins the text
no_hex : (t : List ℕ) (m : ℕ) → begins_hex t ≡ false → is_hex_number (take m t) ≡ false
no_hex t zero n = refl
no_hex [] (suc m) n = refl
no_hex (a ∷ []) (suc zero) n = refl
no_hex (a ∷ []) (suc (suc m)) n = refl
no_hex (a ∷ b ∷ bs) (suc zero) n = refl
no_hex (a ∷ b ∷ bs) (suc (suc zero)) n = none (a == 48 && b == 120)
  where
    none : (x : Bool) → ((x && false) && true) ≡ false
    none true = refl
    none false = refl
no_hex (a ∷ b ∷ []) (suc (suc (suc m))) n = none (a == 48 && b == 120)
  where
    none : (x : Bool) → ((x && false) && true) ≡ false
    none true = refl
    none false = refl
no_hex (a ∷ b ∷ c ∷ cs) (suc (suc (suc m))) n = none (a == 48 && b == 120) (is_hex_digit c) (list_all is_hex_digit (take m cs)) n
  where
    none : (x h r : Bool) → (x && h) ≡ false → ((x && true) && (h && r)) ≡ false
    none true true r e = cc
    none true false r e = refl
    none false h r e = refl

module _ (b : ℕ) (bs : List ℕ) (l : is_letter b ≡ false) (d : is_digit b ≡ true) where
  at_digits : (m : ℕ) → 0 < m → kind_at m (b ∷ bs) ≡ digits_kind (take m (b ∷ bs)) (drop m (b ∷ bs))
  at_digits zero p = absurd (omega (arith, p))
  at_digits (suc m) p = rw (l, d) refl

  some_run : 0 < prefix_len is_digit (b ∷ bs)
  some_run = rw d (omega arith)

  abbrev digits_run : ℕ
  digits_run = prefix_len is_digit (b ∷ bs)

  abbrev value_fits : Bool
  value_fits = nat_le (number_of (take (prefix_len is_digit (b ∷ bs)) (b ∷ bs))) (2 ^ 127 - 1) && not (starts is_word_byte (drop (prefix_len is_digit (b ∷ bs)) (b ∷ bs)))

  number_first : begins_hex (b ∷ bs) ≡ false → first_token (b ∷ bs) ≡ digits_front (b ∷ bs)
  number_first h = only_first (b ∷ bs) (if_so value_fits Number digits_run) all (within value_fits) ∙ sym (ap (λ t. if t then Some (Bytes, 2 + prefix_len is_hex_digit (drop 2 (b ∷ bs))) else if_so value_fits Number digits_run) h)
    where
      within : (t : Bool) → IsWithin (length (b ∷ bs)) (if_so t Number digits_run)
      within true = prefix_len-le-length is_digit (b ∷ bs)
      within false = tt

      number_at : (t : Bool) → where_holds t Number ≡ at_length digits_run (if_so t Number digits_run)
      number_at true = sym (ap (λ t. if t then Some Number else None) (same digits_run digits_run refl))
      number_at false = refl

      other : (m : ℕ) (t : Bool) → (m == digits_run) ≡ false → None ≡ at_length m (if_so t Number digits_run)
      other m true e = sym (ap (λ t. if t then Some Number else None) e)
      other m false e = refl

      lower : (m k : ℕ) → m < k → (m == k) ≡ false
      lower m k e = grind (arith, nat_tests)

      higher : (m k : ℕ) → k < m → (m == k) ≡ false
      higher m k e = grind (arith, nat_tests)

      exact : (m : ℕ) → (m == digits_run) ≡ true → digits_kind (take m (b ∷ bs)) (drop m (b ∷ bs)) ≡ at_length m (if_so value_fits Number digits_run)
      exact m e = let eq : m ≡ digits_run = eqb-true m digits_run e in
          ap (λ k. digits_kind (take k (b ∷ bs)) (drop k (b ∷ bs))) eq
          ∙ ap (λ t. if t then where_holds value_fits Number else where_holds (is_hex_number (take digits_run (b ∷ bs))) Bytes) (all_prefix is_digit (b ∷ bs) digits_run (let r : digits_run ≤ digits_run = omega arith in r))
          ∙ number_at value_fits ∙ ap (λ k. at_length k (if_so value_fits Number digits_run)) (sym eq)

      by_order : (m : ℕ) → 0 < m → m ≤ length (b ∷ bs) → (m == digits_run) ≡ false → (nat_le m digits_run ≡ true) ⊎ (nat_le m digits_run ≡ false) → digits_kind (take m (b ∷ bs)) (drop m (b ∷ bs)) ≡ at_length m (if_so value_fits Number digits_run)
      by_order m p r e (inl y) =
          let low : m < digits_run = grind (arith, nat_tests) in
          ap (λ t. if t then where_holds (nat_le (number_of (take m (b ∷ bs))) (2 ^ 127 - 1) && not (starts is_word_byte (drop m (b ∷ bs)))) Number else where_holds (is_hex_number (take m (b ∷ bs))) Bytes) (all_prefix is_digit (b ∷ bs) m (omega (arith, low)))
          ∙ ap (λ t. where_holds (nat_le (number_of (take m (b ∷ bs))) (2 ^ 127 - 1) && not t) Number) (digit_behind (b ∷ bs) m low)
          ∙ ap (λ t. where_holds t Number) (and_no (nat_le (number_of (take m (b ∷ bs))) (2 ^ 127 - 1)) false refl)
          ∙ other m value_fits e
      by_order m p r e (inr y) =
          let high : digits_run < m = grind (arith, nat_tests) in
          ap (λ t. if t then where_holds (nat_le (number_of (take m (b ∷ bs))) (2 ^ 127 - 1) && not (starts is_word_byte (drop m (b ∷ bs)))) Number else where_holds (is_hex_number (take m (b ∷ bs))) Bytes) (past_prefix is_digit (b ∷ bs) m high r)
          ∙ ap (λ t. where_holds t Bytes) (no_hex (b ∷ bs) m h)
          ∙ other m value_fits e

      by_same : (m : ℕ) → 0 < m → m ≤ length (b ∷ bs) → ((m == digits_run) ≡ true) ⊎ ((m == digits_run) ≡ false) → digits_kind (take m (b ∷ bs)) (drop m (b ∷ bs)) ≡ at_length m (if_so value_fits Number digits_run)
      by_same m p r (inl e) = exact m e
      by_same m p r (inr e) = by_order m p r e (tells (nat_le m digits_run))

      zero_at : (t : Bool) → None ≡ at_length 0 (if_so t Number digits_run)
      zero_at t = other 0 t (lower 0 digits_run some_run)

      all : (m : ℕ) → m ≤ length (b ∷ bs) → kind_at m (b ∷ bs) ≡ at_length m (if_so value_fits Number digits_run)
      all zero r = zero_at value_fits
      all (suc m) r = at_digits (suc m) (omega arith) ∙ by_same (suc m) (omega arith) r (tells (suc m == digits_run))

  hex_first : begins_hex (b ∷ bs) ≡ true → first_token (b ∷ bs) ≡ digits_front (b ∷ bs)
  hex_first h = hex b bs h (λ m p. at_digits m p) ∙ sym (ap (λ t. if t then Some (Bytes, 2 + prefix_len is_hex_digit (drop 2 (b ∷ bs))) else if_so value_fits Number (prefix_len is_digit (b ∷ bs))) h)
    where
      not_digits : (c a : ℕ) (ds : List ℕ) → (a == 120) ≡ true → list_all is_digit (c ∷ a ∷ ds) ≡ false
      not_digits c a ds e = let eq : a ≡ 120 = eqb-true a 120 e in and_no (is_digit c) (list_all is_digit (a ∷ ds)) (ap (λ x. is_digit x && list_all is_digit ds) eq)

      hex_kind : (a c d : ℕ) (ds : List ℕ) (rest : List ℕ) → (a == 48 && c == 120) ≡ true → digits_kind (a ∷ c ∷ d ∷ ds) rest ≡ where_holds (list_all is_hex_digit (d ∷ ds)) Bytes
      hex_kind a c d ds rest e =
          ap (λ t. if t then where_holds (nat_le (number_of (a ∷ c ∷ d ∷ ds)) (2 ^ 127 - 1) && not (starts is_word_byte rest)) Number else where_holds (is_hex_number (a ∷ c ∷ d ∷ ds)) Bytes) (not_digits a c (d ∷ ds) (and_second (a == 48) (c == 120) e))
          ∙ ap (λ t. where_holds ((t && true) && list_all is_hex_digit (d ∷ ds)) Bytes) e

      hex : (a : ℕ) (cs : List ℕ) → begins_hex (a ∷ cs) ≡ true → ((m : ℕ) → 0 < m → kind_at m (a ∷ cs) ≡ digits_kind (take m (a ∷ cs)) (drop m (a ∷ cs)))
          → first_token (a ∷ cs) ≡ Some (Bytes, 2 + prefix_len is_hex_digit (drop 2 (a ∷ cs)))
      hex a [] e k = cc
      hex a (c ∷ []) e k = let none : false ≡ true = sym (and_no (a == 48 && c == 120) false refl) ∙ e in cc
      hex a (c ∷ d ∷ ds) e k =
          let zx = and_first (a == 48 && c == 120) (is_hex_digit d) e in
          let dh = and_second (a == 48 && c == 120) (is_hex_digit d) e in
          let n = prefix_len is_hex_digit (d ∷ ds) in
          let some : 0 < n = run d ds dh in
          let room : 2 + n ≤ length (a ∷ c ∷ d ∷ ds) = let r = prefix_len-le-length is_hex_digit (d ∷ ds) in omega (arith, r) in
          is_first (a ∷ c ∷ d ∷ ds) (2 + n) Bytes room
          (k (2 + n) (omega arith) ∙ at_front a c d ds zx (2 + n) n (omega arith) some ∙ ap (λ t. where_holds t Bytes) (all_prefix is_hex_digit (d ∷ ds) n (let r : n ≤ n = omega arith in r)))
          (λ m low r. k m (omega (arith, low)) ∙ at_front a c d ds zx m (m - 2) (omega (arith, low)) (omega (arith, low, some)) ∙ ap (λ t. where_holds t Bytes) (past_prefix is_hex_digit (d ∷ ds) (m - 2) (omega (arith, low)) (omega (arith, r, low))))
        where
          run : (d : ℕ) (ds : List ℕ) → is_hex_digit d ≡ true → 0 < prefix_len is_hex_digit (d ∷ ds)
          run d ds y = rw y (omega arith)

          at_front : (a c d : ℕ) (ds : List ℕ) → (a == 48 && c == 120) ≡ true → (m j : ℕ) → m ≡ 2 + j → 0 < j → digits_kind (take m (a ∷ c ∷ d ∷ ds)) (drop m (a ∷ c ∷ d ∷ ds)) ≡ where_holds (list_all is_hex_digit (take j (d ∷ ds))) Bytes
          at_front a c d ds zx m zero e p = absurd (omega (arith, p))
          at_front a c d ds zx m (suc j) e p =
              let e' : m ≡ suc (suc (suc j)) = omega (arith, e) in
              ap (λ k. digits_kind (take k (a ∷ c ∷ d ∷ ds)) (drop k (a ∷ c ∷ d ∷ ds))) e' ∙ hex_kind a c d (take j ds) (drop j ds) zx

  pub digits_first : first_token (b ∷ bs) ≡ digits_front (b ∷ bs)
  digits_first = by (tells (begins_hex (b ∷ bs)))
    where
      by : (begins_hex (b ∷ bs) ≡ true) ⊎ (begins_hex (b ∷ bs) ≡ false) → first_token (b ∷ bs) ≡ digits_front (b ∷ bs)
      by (inl y) = hex_first y
      by (inr n) = number_first n
