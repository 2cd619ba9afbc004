-- Letter case comes back.
use Rattle.std.proofs.Common.{◌≡◌, ℕ, zero, suc, ◌+◌, ◌-◌, ◌*◌, ◌/◌, ◌%◌, ◌<◌, ◌≤◌, List, [], ◌∷◌, ◌++◌, map, length, replicate, take, drop, get_or, refl, sym, ap, ◌∙◌, ◌^◌, arith, inl, inr, append_assoc, add-one, add_comm, eqb, pow-suc}
use Rattle.std.proofs.Math.Nat.{pow-le-pow_right}
use Rattle.std.proofs.lemmas.Bool.Decides.{nat_tests}
use Rattle.mr_lanes.specs.Kernels.{upper}
use Rattle.std.specs.List.{suffix_len}
use Rattle.std.proofs.lemmas.Bool.{cases_eq, eq-eqb, ne_eqb}
use Rattle.std.proofs.lemmas.List.{take_more, take_all, drop_more, replicate_more, append-nil}
use Rattle.std.proofs.lemmas.List.Sums.{suffix_len-take_yes, suffix_len-take_no, suffix_len-le-length}
use Rattle.std.proofs.lemmas.Nat.{from_be_bytes-to_be_bytes_2}
use Rattle.mr_lanes.specs.Kernels.{is_space}
use Rattle.mr_pieces.specs.declared.collation.Collation.{Collation}
use Rattle.mr_pieces.specs.declared.collation.Collation.TheVariants.{Bin, Ci}
use Rattle.mr_pieces.specs.Order.{folded}
use Rattle.mr_pieces.specs.Pieces.{trimmed, trim_onto}
use Rattle.mr_pieces.proofs.Cutting.{push_space, push_other}
use Rattle.mr_pieces.specs.Unpack.{lower_bit, bits_value, bits_of, lower_one, lower_by, restored, original, unpack_form}

pub lower_bit_small : (c : ℕ) → lower_bit c < 2
lower_bit_small c = grind (arith, nat_tests)

pub one_back : (c : ℕ) → lower_one (lower_bit c) (upper c) ≡ c
one_back c = grind (arith, nat_tests)

part_back : (text : List ℕ) → lower_by (bits_value text) (map upper text) ≡ text
part_back [] = refl
part_back (c ∷ text) =
    let small = lower_bit_small c in
    let rest = bits_value text in
    let low : (lower_bit c + 2 * rest) % 2 ≡ lower_bit c = omega arith in
    let high : (lower_bit c + 2 * rest) / 2 ≡ rest = omega arith in
    rw (low, high, one_back c, part_back text) refl

pub case_back : (text : List ℕ) → restored (bits_of text) (map upper text) ≡ text
unfolding bits_of restored
case_back (a ∷ b ∷ c ∷ d ∷ e ∷ f ∷ g ∷ h ∷ rest) = ap (λ (l : List ℕ). l ++ restored (bits_of rest) (map upper rest)) (part_back (a ∷ b ∷ c ∷ d ∷ e ∷ f ∷ g ∷ h ∷ [])) ∙ ap (λ (l : List ℕ). a ∷ b ∷ c ∷ d ∷ e ∷ f ∷ g ∷ h ∷ l) (case_back rest)
case_back [] = refl
case_back rest = part_back rest

-- ---- the spaces come back

front_back : (n : ℕ) (xs : List ℕ) → n ≤ length xs → trimmed (take n xs) ++ replicate (suffix_len is_space (take n xs)) 32 ≡ take n xs
front_back zero xs within = refl
front_back (suc n) xs within =
    let more : take (suc n) xs ≡ take n xs ++ get_or xs n 0 ∷ [] = rw (← add-one n) (take_more xs n 0 within) in
    let down : suc n - 1 ≡ n = omega arith in
    elim (cases_eq (get_or xs n 0) 32) [
      | inl space ↦
          let k : ℕ = suffix_len is_space (take n xs) in
          let count : suffix_len is_space (take (suc n) xs) ≡ 1 + k =
          rw down at (suffix_len-take_yes is_space xs (suc n) 0 (omega arith) within (rw down (eq-eqb (get_or xs n 0) 32 space))) in
          let grown : replicate (1 + k) 32 ≡ replicate k 32 ++ 32 ∷ [] = ap (λ (j : ℕ). replicate {A = ℕ} j 32) (add_comm 1 k) ∙ sym (replicate_more {X = ℕ} k 32) in
          rw (count, more, space, push_space (take n xs), grown, ← append_assoc) (ap (λ (l : List ℕ). l ++ 32 ∷ []) (front_back n xs (omega arith)))
      | inr other ↦
          let count : suffix_len is_space (take (suc n) xs) ≡ 0 =
          suffix_len-take_no is_space xs (suc n) 0 (omega arith) within (rw down (ne_eqb (get_or xs n 0) 32 other)) in
          rw (count, more, push_other (take n xs) (get_or xs n 0) other) (append-nil (take n xs ++ get_or xs n 0 ∷ []))
    ]

pub spaces_back : (xs : List ℕ) → trimmed xs ++ replicate (suffix_len is_space xs) 32 ≡ xs
spaces_back xs =
    let all : take (length xs) xs ≡ xs = take_all (length xs) xs (omega arith) in
    let e = front_back (length xs) xs (omega arith) in
    rw all at e

-- ---- folding and trimming pass each other

upper_space : (c : ℕ) → eqb (upper c) 32 ≡ eqb c 32
upper_space c = grind (arith, nat_tests)

onto_upper : (c : ℕ) (text : List ℕ) → trim_onto (upper c) (map upper text) ≡ map upper (trim_onto c text)
onto_upper c [] =
    elim (cases_eq c 32) [
      | inl space ↦ rw (upper_space c, eq-eqb c 32 space) refl
      | inr other ↦ rw (upper_space c, ne_eqb c 32 other) refl
    ]
onto_upper c (d ∷ text) = refl

pub trimmed_upper : (text : List ℕ) → trimmed (map upper text) ≡ map upper (trimmed text)
trimmed_upper [] = refl
trimmed_upper (c ∷ text) = ap (trim_onto (upper c)) (trimmed_upper text) ∙ onto_upper c (trimmed text)

-- what a key and its unpack form hold is the text, byte for byte
pub text_back : (collation : Collation) (text : List ℕ) → length text < 2 ^ 16 → original collation (trimmed (folded collation text)) (unpack_form collation text) ≡ text
text_back Bin text short =
    let small = suffix_len-le-length is_space text in
    rw (from_be_bytes-to_be_bytes_2 (suffix_len is_space text) (omega arith)) (spaces_back text)
text_back Ci text short =
    let small = suffix_len-le-length is_space text in
    rw (from_be_bytes-to_be_bytes_2 (suffix_len is_space text) (omega arith), trimmed_upper text, case_back (trimmed text)) (spaces_back text)

-- ---- bits in loops

bits_below : (xs : List ℕ) → bits_value xs < 2 ^ length xs
bits_below [] = omega arith
bits_below (c ∷ xs) = let small = lower_bit_small c in let ih = bits_below xs in let two : 2 ^ suc (length xs) ≡ 2 ^ length xs * 2 = pow-suc 2 (length xs) in rw two (omega arith)

pub bits_small : (xs : List ℕ) → length xs ≤ 7 → bits_value xs < 128
bits_small xs few = let b = bits_below xs in let c = pow-le-pow_right {n = 2} (omega arith) {i = length xs} {j = 7} few in omega arith

pub bits_more : (xs : List ℕ) (i : ℕ) → i < length xs → bits_value (drop i xs) ≡ lower_bit (get_or xs i 0) + 2 * bits_value (drop (i + 1) xs)
bits_more xs i within = rw (drop_more xs i 0 within) refl

pub bits_step : (xs : List ℕ) → 0 < length xs → bits_of xs ≡ bits_value (take 8 xs) ∷ bits_of (drop 8 xs)
unfolding bits_of
bits_step (a ∷ b ∷ c ∷ d ∷ e ∷ f ∷ g ∷ h ∷ rest) some = refl
bits_step [] some = absurd (omega arith)
bits_step rest some = refl

pub bits_loop : (out grown rest part after goal : List ℕ) (bits : ℕ) → 0 < length rest → part ≡ take 8 rest → after ≡ drop 8 rest → bits ≡ bits_value part → grown ≡ out ++ bits ∷ [] → out ++ bits_of rest ≡ goal → grown ++ bits_of after ≡ goal
bits_loop out grown rest part after goal bits some part_is after_is bits_is grown_is so_far =
    rw (grown_is, bits_is, part_is, after_is, append_assoc) (rw (bits_step rest some) at so_far)

pub bits_done : (out rest goal : List ℕ) → length rest ≡ 0 → out ++ bits_of rest ≡ goal → out ≡ goal
unfolding bits_of
bits_done out [] goal none so_far = sym (append-nil out) ∙ so_far
bits_done out (x ∷ rest) goal none so_far = absurd (omega arith)

pub doubled : (bits part : ℕ) → bits < 128 → part < 2 → 2 * bits + part < 256
doubled bits part b p = omega arith
