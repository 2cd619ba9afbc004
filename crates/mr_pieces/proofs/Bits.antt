-- The bit of a byte in an unpack form.
use Rattle.std.proofs.Common.{◌≡◌, ℕ, zero, suc, ◌+◌, ◌-◌, ◌*◌, ◌/◌, ◌%◌, ◌^◌, ◌<◌, ◌≤◌, List, [], ◌∷◌, length, take, drop, get_or, sym, ap, ◌∙◌, arith, inl, inr, pow-suc, length-drop}
use Rattle.std.proofs.Math.Nat.{div-div-eq-div-mul}
use Rattle.std.proofs.lemmas.Bool.{cases_lt}
use Rattle.std.proofs.lemmas.List.{length-take, get_or-take, get_or-drop}
use Rattle.mr_pieces.specs.Unpack.{lower_bit, bits_value, bits_of}
use Rattle.mr_pieces.proofs.Restoring.{lower_bit_small, bits_step}

first_bit : (c v : ℕ) → (lower_bit c + 2 * v) / 1 % 2 ≡ lower_bit c
first_bit c v = let small = lower_bit_small c in omega arith

later_bit : (c v a : ℕ) → (lower_bit c + 2 * v) / 2 ^ suc a ≡ v / 2 ^ a
later_bit c v a =
    let small = lower_bit_small c in
    let half : (lower_bit c + 2 * v) / 2 ≡ v = omega arith in
    let power : 2 ^ suc a ≡ 2 * 2 ^ a = pow-suc 2 a ∙ omega arith in
    ap (λ (k : ℕ). (lower_bit c + 2 * v) / k) power ∙ sym (div-div-eq-div-mul (lower_bit c + 2 * v) 2 (2 ^ a)) ∙ ap (λ (k : ℕ). k / 2 ^ a) half

bit_of_value : (t : List ℕ) (at : ℕ) → at < length t → bits_value t / 2 ^ at % 2 ≡ lower_bit (get_or t at 0)
bit_of_value [] at within = absurd (omega arith)
bit_of_value (c ∷ t) zero within = first_bit c (bits_value t)
bit_of_value (c ∷ t) (suc a) within = ap (λ (k : ℕ). k % 2) (later_bit c (bits_value t) a) ∙ bit_of_value t a (omega arith)

pub record BitAt (t bits : List ℕ) (at : ℕ) : Type 0 where
  pub within : at / 8 < length bits
  pub is : get_or bits (at / 8) 0 / 2 ^ (at % 8) % 2 ≡ lower_bit (get_or t at 0)

first_bits : (t : List ℕ) (at : ℕ) → at < length t → at < 8 → BitAt t (bits_of t) at
first_bits t at within low =
    let byte : at / 8 ≡ 0 = omega arith in
    let place : at % 8 ≡ at = omega arith in
    let step = bits_step t (omega arith) in
    let b = bit_of_value (take 8 t) at (omega (arith, length-take 8 t)) in
    record {
      within = rw (byte, step) (omega arith);
      is = rw (byte, place, step) (b ∙ ap lower_bit (get_or-take 8 t at 0 low));
    }

later_bits : (t : List ℕ) (at : ℕ) → at < length t → 8 ≤ at → BitAt (drop 8 t) (bits_of (drop 8 t)) (at - 8) → BitAt t (bits_of t) at
later_bits t at within high rest =
    let byte : at / 8 ≡ suc ((at - 8) / 8) = omega arith in
    let place : at % 8 ≡ (at - 8) % 8 = omega arith in
    let back : 8 + (at - 8) ≡ at = omega arith in
    let step = bits_step t (omega arith) in
    let w = rest.within in
    record {
      within = rw (byte, step) (omega arith);
      is = rw (byte, place, step) (rest.is ∙ ap lower_bit (get_or-drop 8 t (at - 8) 0 ∙ ap (λ (n : ℕ). get_or t n 0) back));
    }

pub bit_at : (fuel : ℕ) (t : List ℕ) (at : ℕ) → at ≤ fuel → at < length t → BitAt t (bits_of t) at
bit_at zero t at few within = first_bits t at within (omega arith)
bit_at (suc fuel) t at few within =
    elim (cases_lt at 8) [
      | inl low ↦ first_bits t at within low
      | inr high ↦ later_bits t at within (omega arith) (bit_at fuel (drop 8 t) (at - 8) (omega arith) (omega (arith, length-drop 8 t)))
    ]
