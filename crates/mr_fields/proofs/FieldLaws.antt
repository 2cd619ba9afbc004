-- Numbers, names, texts and lists are read from their bytes, and from nothing else.
use Rattle.std.proofs.Common.{◌≡◌, ℕ, zero, suc, ◌+◌, ◌*◌, ◌^◌, ◌/◌, ◌%◌, ◌<◌, ◌≤◌, List, [], ◌∷◌, ◌++◌, length, take, drop, refl, ap, sym, ◌∙◌, arith, Bool, true, false, cond, ◌&&◌, nat_lt, nat_le, slice_index, length-append, length-take, get_or, Fits, w8, Result, Ok, Err, IfOk}
use Rattle.std.specs.Int.{byte_at, bytes_high_first}
use Rattle.std.specs.List.{list_all, AllByRecursion}
use Rattle.std.proofs.lemmas.Bool.{ltb-true, ltb-false, leb-true, le-leb, le-ltb, lt-ltb}
use Rattle.std.proofs.lemmas.List.{take-append-drop}
use Rattle.std.proofs.lemmas.Nat.{div-mul-add}
use Rattle.std.proofs.Math.Nat.{add-mul, mul_assoc, mul-add-mod_self_right, mod-eq_of_lt, pow-succ', div-one}
use Rattle.std.proofs.Math.Seq.{drop-append_seam, take-append_seam}
use Rattle.byteorder.specs.Endian.{big_bytes, big_number, big_from}
use Rattle.byteorder.specs.Numbers.{big_from-cons, big_from-lt, big_number-reads_back, length-bytes_high_first}
use Rattle.mr_types.specs.Refusals.{◌>>=◌, refused_as}
use Rattle.mr_spec.specs.RowForm.{text16_bytes}
use Rattle.mr_fields.specs.Fields.{Read, is_byte, byte_in, flag_byte, flag_in, number_in, bytes_in, is_name, name_bytes, name_in, sized_in, text16_in, listed_bytes, listed_in, ended, read_whole, placed}
use Rattle.mr_fields.specs.Fitting.{NameFits}
use Rattle.mr_fields.proofs.Reading.{IsRead, Front, both, then_read, where_true, where_false, of_ok, mid, last}

pub and_true : (a b : Bool) → (a && b) ≡ true → (a ≡ true) × (b ≡ true)
and_true true b e = (refl, e)
and_true false b e = cc

-- a slice of bytes
pub all_bytes : (s : List ℕ) → ((i : ℕ) → Fits w8 (get_or s i 0)) → list_all is_byte s ≡ true
all_bytes [] h = refl
all_bytes (b ∷ s) h = let first : b < 256 = omega (arith, h 0) in rw (lt-ltb b 256 first) (all_bytes s (λ i. h (suc i)))

-- ---- numbers

each_byte : (s : List ℕ) → list_all is_byte s ≡ true → (k : ℕ) → slice_index s k < 256
each_byte [] e k = omega arith
each_byte (b ∷ s) e zero = ltb-true b 256 ((and_true (is_byte b) (list_all is_byte s) e).0)
each_byte (b ∷ s) e (suc k) = each_byte s ((and_true (is_byte b) (list_all is_byte s) e).1) k

byte_at_is : (i x : ℕ) → byte_at i x ≡ x / 256 ^ i % 256
byte_at_is zero x = ap (λ (y : ℕ). y % 256) (sym (div-one x))
byte_at_is (suc i) x = refl

-- a digit in front of a number
split : (n q b r : ℕ) → q * 256 ^ suc n + (b * 256 ^ n + r) ≡ (q * 256 + b) * 256 ^ n + r
split n q b r = rw (pow-succ' 256 n, add-mul (q * 256) b (256 ^ n), mul_assoc q 256 (256 ^ n)) (omega arith)

top_digit : (q b : ℕ) → b < 256 → (q * 256 + b) % 256 ≡ b
top_digit q b l = mul-add-mod_self_right q 256 b ∙ mod-eq_of_lt l

-- the number of the bytes has these bytes, whatever stands above them
bytes_again : (n q : ℕ) (s : List ℕ) → n ≤ length s → list_all is_byte s ≡ true → bytes_high_first n (q * 256 ^ n + big_from 0 n s) ≡ take n s
bytes_again zero q s l e = refl
bytes_again (suc n) q [] l e = absurd (omega (arith, l))
bytes_again (suc n) q (b ∷ s) l e =
    let parts = and_true (is_byte b) (list_all is_byte s) e in
    let low : big_from 0 n s < 256 ^ n = big_from-lt 0 n s (each_byte s parts.1) in
    let whole : q * 256 ^ suc n + (b * 256 ^ n + big_from 1 n (b ∷ s)) ≡ (q * 256 + b) * 256 ^ n + big_from 0 n s = ap (λ (r : ℕ). q * 256 ^ suc n + (b * 256 ^ n + r)) (big_from-cons 0 n b s) ∙ split n q b (big_from 0 n s) in
    let first : byte_at n ((q * 256 + b) * 256 ^ n + big_from 0 n s) ≡ b = byte_at_is n _ ∙ ap (λ (x : ℕ). x % 256) (div-mul-add (q * 256 + b) (256 ^ n) (big_from 0 n s) low) ∙ top_digit q b (ltb-true b 256 parts.0) in
    ap (λ (x : ℕ). byte_at n x ∷ bytes_high_first n x) whole ∙ ap (λ (x : ℕ). x ∷ bytes_high_first n ((q * 256 + b) * 256 ^ n + big_from 0 n s)) first ∙ ap (λ x. b ∷ x) (bytes_again n (q * 256 + b) s (omega (arith, l)) parts.1)

number_again : (n : ℕ) (s : List ℕ) → n ≤ length s → list_all is_byte s ≡ true → big_bytes n (big_number n s) ≡ take n s
number_again n s l e = let z : big_from 0 n s ≡ 0 * 256 ^ n + big_from 0 n s = omega arith in ap (λ (x : ℕ). bytes_high_first n x) z ∙ bytes_again n 0 s l e

bytes_behind : (n : ℕ) (s : List ℕ) → list_all is_byte s ≡ true → list_all is_byte (drop n s) ≡ true
bytes_behind zero s e = e
bytes_behind (suc n) [] e = e
bytes_behind (suc n) (b ∷ s) e = bytes_behind n s ((and_true (is_byte b) (list_all is_byte s) e).1)

-- a number in its range, in front
abbrev pub Number : ℕ → List ℕ → ℕ × List ℕ → Type 0
Number n s p = IsRead s (big_bytes n p.0) p.1 × (p.0 < 256 ^ n)

pub number_only : (n : ℕ) (s : List ℕ) → list_all is_byte s ≡ true → IfOk (number_in n s) (Number n s)
number_only n s e = where_false (Number n s) (nat_lt (length s) n) (big_number n s, drop n s) (length s) (λ f.
    let long : n ≤ length s = ltb-false (length s) n f in
    (record { whole = sym (take-append-drop n s) ∙ ap (λ a. a ++ drop n s) (sym (number_again n s long e)); rest_bytes = bytes_behind n s e }, big_from-lt 0 n s (each_byte s e)))

pub number_back : (n x : ℕ) (rest : List ℕ) → x < 256 ^ n → number_in n (big_bytes n x ++ rest) ≡ Ok (x, rest)
number_back n x rest l =
    let size : length (big_bytes n x) ≡ n = length-bytes_high_first n x in
    let room : nat_lt (length (big_bytes n x ++ rest)) n ≡ false = le-ltb (length (big_bytes n x ++ rest)) n (omega (arith, length-append (big_bytes n x) rest, size)) in
    let after : drop n (big_bytes n x ++ rest) ≡ rest = ap (λ k. drop k (big_bytes n x ++ rest)) (sym size) ∙ drop-append_seam (big_bytes n x) rest in
    ap (λ t. cond t (Err (length (big_bytes n x ++ rest))) (Ok (big_number n (big_bytes n x ++ rest), drop n (big_bytes n x ++ rest)))) room
    ∙ ap (λ (y : ℕ). Ok (y, drop n (big_bytes n x ++ rest))) (big_number-reads_back n x rest l)
    ∙ ap (λ (y : List ℕ). Ok (x, y)) after

-- ---- bytes

-- a byte, in front
abbrev one_byte : ℕ → List ℕ
one_byte b = b ∷ []

abbrev pub Byte : ℕ → List ℕ → ℕ × List ℕ → Type 0
Byte n s p = IsRead s (p.0 ∷ []) p.1 × (p.0 < n)

pub byte_only : (n : ℕ) (s : List ℕ) → list_all is_byte s ≡ true → IfOk (byte_in n s) (Byte n s)
byte_only n [] e = tt
byte_only n (b ∷ s) e = where_true (Byte n (b ∷ s)) (nat_lt b n) (b, s) (length (b ∷ s)) (λ h.
    (record { whole = refl; rest_bytes = (and_true (is_byte b) (list_all is_byte s) e).1 }, ltb-true b n h))

flag_again : (b : ℕ) → b < 2 → b ≡ flag_byte (Rattle.std.proofs.Common.nat_eq b 1)
flag_again zero lt = refl
flag_again (suc zero) lt = refl
flag_again (suc (suc b)) lt = absurd (omega (arith, lt))

abbrev pub flag_bytes : Bool → List ℕ
flag_bytes flag = flag_byte flag ∷ []

pub flag_only : (s : List ℕ) → list_all is_byte s ≡ true → IfOk (flag_in s) (Front flag_bytes s)
flag_only s e = then_read (Byte 2 s) (Front flag_bytes s) (byte_in 2 s) _ (byte_only 2 s e) (λ p is.
    record { whole = is.0.whole ∙ ap (λ (b : ℕ). b ∷ p.1) (flag_again p.0 is.1); rest_bytes = is.0.rest_bytes })

pub flag_back : (flag : Bool) (rest : List ℕ) → flag_in (flag_byte flag ∷ rest) ≡ Ok (flag, rest)
flag_back true rest = refl
flag_back false rest = refl

-- so many bytes, in front
abbrev pub Sized : ℕ → List ℕ → List ℕ × List ℕ → Type 0
Sized n s p = IsRead s p.0 p.1 × (length p.0 ≡ n)

bytes_only : (n : ℕ) (s : List ℕ) → list_all is_byte s ≡ true → IfOk (bytes_in n s) (Sized n s)
bytes_only n s e = where_false (Sized n s) (nat_lt (length s) n) (take n s, drop n s) (length s) (λ f.
    let long : n ≤ length s = ltb-false (length s) n f in
    (record { whole = sym (take-append-drop n s); rest_bytes = bytes_behind n s e }, omega (arith, length-take n s)))

bytes_back : (xs rest : List ℕ) → bytes_in (length xs) (xs ++ rest) ≡ Ok (xs, rest)
bytes_back xs rest =
    let room : nat_lt (length (xs ++ rest)) (length xs) ≡ false = le-ltb (length (xs ++ rest)) (length xs) (omega (arith, length-append xs rest)) in
    ap (λ t. cond t (Err (length (xs ++ rest))) (Ok (take (length xs) (xs ++ rest), drop (length xs) (xs ++ rest)))) room
    ∙ ap (λ (y : List ℕ). Ok (y, drop (length xs) (xs ++ rest))) (take-append_seam xs rest)
    ∙ ap (λ (y : List ℕ). Ok (xs, y)) (drop-append_seam xs rest)

-- ---- names and texts

pub name_only : (s : List ℕ) → list_all is_byte s ≡ true → IfOk (name_in s) (Front name_bytes s)
name_only [] e = tt
name_only (size ∷ s) e = where_true (Front name_bytes (size ∷ s)) (nat_le size (length s) && is_name (take size s)) (take size s, drop size s) (length (size ∷ s)) (λ h.
    let long : size ≤ length s = leb-true size (length s) ((and_true (nat_le size (length s)) (is_name (take size s)) h).0) in
    let same : length (take size s) ≡ size = omega (arith, length-take size s) in
    record {
      whole = ap (λ (x : List ℕ). size ∷ x) (sym (take-append-drop size s)) ∙ ap (λ (n : ℕ). n ∷ (take size s ++ drop size s)) (sym same);
      rest_bytes = bytes_behind size s ((and_true (is_byte size) (list_all is_byte s) e).1);
    })

pub name_back : (name rest : List ℕ) → NameFits name → name_in (name_bytes name ++ rest) ≡ Ok (name, rest)
name_back name rest fits =
    let room : nat_le (length name) (length (name ++ rest)) ≡ true = le-leb (length name) (length (name ++ rest)) (omega (arith, length-append name rest)) in
    ap (λ (b : Bool). cond (b && is_name (take (length name) (name ++ rest))) (Ok (take (length name) (name ++ rest), drop (length name) (name ++ rest))) (Err (length (length name ∷ (name ++ rest))))) room
    ∙ ap (λ (t : List ℕ). cond (is_name t) (Ok (t, drop (length name) (name ++ rest))) (Err (length (length name ∷ (name ++ rest))))) (take-append_seam name rest)
    ∙ ap (λ (b : Bool). cond b (Ok (name, drop (length name) (name ++ rest))) (Err (length (length name ∷ (name ++ rest))))) fits.is_name
    ∙ ap (λ (t : List ℕ). Ok (name, t)) (drop-append_seam name rest)

as_field : {X : Type 0} (left : ℕ) (P : X → Type 0) (r : Result X ℕ) → IfOk r P → IfOk (refused_as left r) P
as_field left P (Ok x) h = h
as_field left P (Err e) h = tt

pub text16_only : (test : List ℕ → Bool) (s : List ℕ) → list_all is_byte s ≡ true → IfOk (text16_in test s) (Front text16_bytes s)
text16_only test s e = as_field (length s) (Front text16_bytes s) (sized_in test s) (
    then_read (Number 2 s) (Front text16_bytes s) (number_in 2 s) _ (number_only 2 s e) (λ size is.
    then_read (Sized size.0 size.1) (Front text16_bytes s) (bytes_in size.0 size.1) _ (bytes_only size.0 size.1 is.0.rest_bytes) (λ text it.
    where_true (Front text16_bytes s) (test text.0) text (length s) (λ h.
    both s (big_bytes 2 (length text.0)) size.1 text.0 text.1 (Rattle.std.proofs.Common.subst (λ (n : ℕ). IsRead s (big_bytes 2 n) size.1) (sym it.1) is.0) it.0))))

pub text16_back : (test : List ℕ → Bool) (text rest : List ℕ) → length text < 2 ^ 16 → test text ≡ true → text16_in test (text16_bytes text ++ rest) ≡ Ok (text, rest)
text16_back test text rest short good = ap (refused_as (length (text16_bytes text ++ rest))) (
    mid (number_in 2) (big_bytes 2 (length text)) text rest (length text) _ _ (λ t. number_back 2 (length text) t (omega (arith, short))) (
    last (bytes_in (length text)) text rest text _ _ (bytes_back text) (
    ap (λ (b : Bool). cond b (Ok (text, rest)) (Err (length (text16_bytes text ++ rest)))) good)))

-- ---- lists

-- so many of a form, in front
abbrev pub Listed : {X : Type 0} → (X → List ℕ) → ℕ → List ℕ → List X × List ℕ → Type 0
Listed write n s p = IsRead s (listed_bytes write p.0) p.1 × (length p.0 ≡ n)

module _ {X : Type 0} (write : X → List ℕ) (read : List ℕ → Read X) where
  pub listed_only : ((s : List ℕ) → list_all is_byte s ≡ true → IfOk (read s) (Front write s)) → (n : ℕ) (s : List ℕ) → list_all is_byte s ≡ true → IfOk (listed_in read n s) (Listed write n s)
  listed_only one zero s e = (record { whole = refl; rest_bytes = e }, refl)
  listed_only one (suc n) s e =
      then_read (Front write s) (Listed write (suc n) s) (read s) _ (one s e) (λ x is.
      then_read (Listed write n x.1) (Listed write (suc n) s) (listed_in read n x.1) _ (listed_only one n x.1 is.rest_bytes) (λ xs are.
      (both s (write x.0) x.1 (listed_bytes write xs.0) xs.1 is are.0, ap suc are.1)))

  pub listed_back : (P : X → Type 0) → ((x : X) (rest : List ℕ) → P x → read (write x ++ rest) ≡ Ok (x, rest)) → (xs : List X) (rest : List ℕ) → AllByRecursion P xs → listed_in read (length xs) (listed_bytes write xs ++ rest) ≡ Ok (xs, rest)
  listed_back P one [] rest all = refl
  listed_back P one (x ∷ xs) rest all =
      mid read (write x) (listed_bytes write xs) rest x _ _ (λ t. one x t all.0) (
      last (listed_in read (length xs)) (listed_bytes write xs) rest xs _ _ (λ t. listed_back P one xs t all.1) refl)

-- ---- the whole

no_end : (xs : List ℕ) → xs ++ [] ≡ xs
no_end [] = refl
no_end (x ∷ xs) = ap (λ ys. x ∷ ys) (no_end xs)

module _ {X : Type 0} (write : X → List ℕ) (read : List ℕ → Read X) where
  ended_only : (s : List ℕ) (p : X × List ℕ) → Front write s p → IfOk (ended p) (λ x. s ≡ write x)
  ended_only s (x, []) is = is.whole ∙ no_end (write x)
  ended_only s (x, b ∷ rest) is = tt

  -- what was read as a whole are the bytes that are written for it
  pub whole_only : (s : List ℕ) (x : X) → IfOk (read s) (Front write s) → (read s >>= ended) ≡ Ok x → s ≡ write x
  whole_only s x is e = of_ok (λ x. s ≡ write x) (read s >>= ended) x (then_read (Front write s) (λ x. s ≡ write x) (read s) ended is (λ p is. ended_only s p is)) e

  pub whole_back : (x : X) → ((rest : List ℕ) → read (write x ++ rest) ≡ Ok (x, rest)) → read_whole read (write x) ≡ Ok x
  whole_back x is = ap (λ (r : Result X ℕ). placed (write x) r) (ap (λ (t : List ℕ). read t >>= ended) (sym (no_end (write x))) ∙ ap (λ (r : Read X). r >>= ended) (is []))
