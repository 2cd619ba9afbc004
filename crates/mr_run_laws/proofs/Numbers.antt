-- Fields read from their bytes, and nothing else.
use Rattle.std.proofs.Common.{◌≡◌, ℕ, zero, suc, ◌+◌, ◌*◌, ◌^◌, ◌/◌, ◌%◌, ◌<◌, ◌≤◌, List, [], ◌∷◌, ◌++◌, length, take, drop, refl, ap, sym, ◌∙◌, arith, Bool, true, false, cond, ◌&&◌, inl, inr, ◌⊎◌, nat_lt, slice_index, length-append, subst, Result, Ok, Err, get_or, Fits, w8}
use Rattle.std.specs.Int.{byte_at, bytes_high_first}
use Rattle.std.specs.List.{list_all}
use Rattle.std.proofs.lemmas.Bool.{ltb-true, ltb-false}
use Rattle.std.proofs.lemmas.List.{take-append-drop}
use Rattle.std.proofs.lemmas.Nat.{div-mul-add}
use Rattle.std.proofs.Math.Nat.{add-mul, mul_assoc, mul-add-mod_self_right, mod-eq_of_lt, pow-succ', div-one}
use Rattle.byteorder.specs.Endian.{big_bytes, big_number, big_from}
use Rattle.byteorder.specs.Numbers.{big_from-cons, big_from-lt}
use Rattle.mr_block.specs.Fields.{is_byte, ◌>>=◌, number_in, bytes_in}

pub tells : (b : Bool) → (b ≡ true) ⊎ (b ≡ false)
tells true = inl refl
tells false = inr refl

pub and_true : (a b : Bool) → (a && b) ≡ true → (a ≡ true) × (b ≡ true)
and_true true b e = (refl, e)
and_true false b e = cc

-- what the first of two readers gave
pub bound : {X Y : Type 0} (x : Result X ℕ) (f : X → Result Y ℕ) (y : Y) → (x >>= f) ≡ Ok y → (z : X) × (x ≡ Ok z) × (f z ≡ Ok y)
bound (Ok z) f y e = (z, refl, e)
bound (Err left) f y e = cc

each_byte : (s : List ℕ) → list_all is_byte s ≡ true → (k : ℕ) → slice_index s k < 256
each_byte [] e k = omega arith
each_byte (b ∷ s) e zero = ltb-true b 256 ((and_true (is_byte b) (list_all is_byte s) e).0)
each_byte (b ∷ s) e (suc k) = each_byte s ((and_true (is_byte b) (list_all is_byte s) e).1) k

byte_at_is : (i x : ℕ) → byte_at i x ≡ x / 256 ^ i % 256
byte_at_is zero x = ap (λ (y : ℕ). y % 256) (sym (div-one x))
byte_at_is (suc i) x = refl

-- a digit in front of a number
split : (n q b r : ℕ) → q * 256 ^ suc n + (b * 256 ^ n + r) ≡ (q * 256 + b) * 256 ^ n + r
split n q b r = rw (pow-succ' 256 n, add-mul (q * 256) b (256 ^ n), mul_assoc q 256 (256 ^ n)) (omega arith)

top_digit : (q b : ℕ) → b < 256 → (q * 256 + b) % 256 ≡ b
top_digit q b l = mul-add-mod_self_right q 256 b ∙ mod-eq_of_lt l

-- the number of the bytes has these bytes, whatever stands above them
bytes_again : (n q : ℕ) (s : List ℕ) → n ≤ length s → list_all is_byte s ≡ true → bytes_high_first n (q * 256 ^ n + big_from 0 n s) ≡ take n s
bytes_again zero q s l e = refl
bytes_again (suc n) q [] l e = absurd (omega (arith, l))
bytes_again (suc n) q (b ∷ s) l e =
    let parts = and_true (is_byte b) (list_all is_byte s) e in
    let low : big_from 0 n s < 256 ^ n = big_from-lt 0 n s (each_byte s parts.1) in
    let whole : q * 256 ^ suc n + (b * 256 ^ n + big_from 1 n (b ∷ s)) ≡ (q * 256 + b) * 256 ^ n + big_from 0 n s = ap (λ (r : ℕ). q * 256 ^ suc n + (b * 256 ^ n + r)) (big_from-cons 0 n b s) ∙ split n q b (big_from 0 n s) in
    let first : byte_at n ((q * 256 + b) * 256 ^ n + big_from 0 n s) ≡ b = byte_at_is n _ ∙ ap (λ (x : ℕ). x % 256) (div-mul-add (q * 256 + b) (256 ^ n) (big_from 0 n s) low) ∙ top_digit q b (ltb-true b 256 parts.0) in
    ap (λ (x : ℕ). byte_at n x ∷ bytes_high_first n x) whole ∙ ap (λ (x : ℕ). x ∷ bytes_high_first n ((q * 256 + b) * 256 ^ n + big_from 0 n s)) first ∙ ap (λ x. b ∷ x) (bytes_again n (q * 256 + b) s (omega (arith, l)) parts.1)

pub number_again : (n : ℕ) (s : List ℕ) → n ≤ length s → list_all is_byte s ≡ true → big_bytes n (big_number n s) ≡ take n s
number_again n s l e = let z : big_from 0 n s ≡ 0 * 256 ^ n + big_from 0 n s = omega arith in ap (λ (x : ℕ). bytes_high_first n x) z ∙ bytes_again n 0 s l e

pub bytes_behind : (n : ℕ) (s : List ℕ) → list_all is_byte s ≡ true → list_all is_byte (drop n s) ≡ true
bytes_behind zero s e = e
bytes_behind (suc n) [] e = e
bytes_behind (suc n) (b ∷ s) e = bytes_behind n s ((and_true (is_byte b) (list_all is_byte s) e).1)

-- what stands in front, and the bytes behind it
pub record IsRead (bytes front rest : List ℕ) : Type 0 where
  pub whole : bytes ≡ front ++ rest
  pub rest_bytes : list_all is_byte rest ≡ true

pub number_only : (n : ℕ) (s : List ℕ) (r : ℕ × List ℕ) → list_all is_byte s ≡ true → number_in n s ≡ Ok r → IsRead s (big_bytes n r.0) r.1
number_only n s r e is = elim (tells (nat_lt (length s) n)) [
  | inl y ↦ let no : Err (length s) ≡ Ok r = sym (ap (λ t. cond t (Err (length s)) (Ok (big_number n s, drop n s))) y) ∙ is in cc
  | inr f ↦
      let yes_r : Ok (big_number n s, drop n s) ≡ Ok r = sym (ap (λ t. cond t (Err (length s)) (Ok (big_number n s, drop n s))) f) ∙ is in
      let long : n ≤ length s = ltb-false (length s) n f in
      let same : (big_number n s, drop n s) ≡ r = cc in
      let whole : s ≡ big_bytes n (big_number n s) ++ drop n s = sym (take-append-drop n s) ∙ ap (λ a. a ++ drop n s) (sym (number_again n s long e)) in
      subst (λ (p : ℕ × List ℕ). IsRead s (big_bytes n p.0) p.1) same (record { whole = whole; rest_bytes = bytes_behind n s e })
]

pub bytes_only : (n : ℕ) (s : List ℕ) (r : List ℕ × List ℕ) → list_all is_byte s ≡ true → bytes_in n s ≡ Ok r → IsRead s r.0 r.1 × (length r.0 ≡ n)
bytes_only n s r e is = elim (tells (nat_lt (length s) n)) [
  | inl y ↦ let no : Err (length s) ≡ Ok r = sym (ap (λ t. cond t (Err (length s)) (Ok (take n s, drop n s))) y) ∙ is in cc
  | inr f ↦
      let yes_r : Ok (take n s, drop n s) ≡ Ok r = sym (ap (λ t. cond t (Err (length s)) (Ok (take n s, drop n s))) f) ∙ is in
      let long : n ≤ length s = ltb-false (length s) n f in
      let same : (take n s, drop n s) ≡ r = cc in
      subst (λ (p : List ℕ × List ℕ). IsRead s p.0 p.1 × (length p.0 ≡ n)) same (record { whole = sym (take-append-drop n s); rest_bytes = bytes_behind n s e }, omega (arith, Rattle.std.proofs.Common.length-take n s))
]

-- a number of so many bytes
pub number_small : (n : ℕ) (s : List ℕ) (r : ℕ × List ℕ) → list_all is_byte s ≡ true → number_in n s ≡ Ok r → r.0 < 256 ^ n
number_small n s r e is = elim (tells (nat_lt (length s) n)) [
  | inl y ↦ let no : Err (length s) ≡ Ok r = sym (ap (λ t. cond t (Err (length s)) (Ok (big_number n s, drop n s))) y) ∙ is in cc
  | inr f ↦
      let yes_r : Ok (big_number n s, drop n s) ≡ Ok r = sym (ap (λ t. cond t (Err (length s)) (Ok (big_number n s, drop n s))) f) ∙ is in
      let same : (big_number n s, drop n s) ≡ r = cc in
      subst (λ (p : ℕ × List ℕ). p.0 < 256 ^ n) same (big_from-lt 0 n s (each_byte s e))
]
