-- A text is all spaces where as many stand at its end as it has bytes.
use Rattle.std.proofs.Common.{◌≡◌, ◌≢◌, ℕ, List, [], ◌∷◌, ◌++◌, length, replicate, refl, sym, ap, ◌∙◌, arith, true, inl, inr, zero, suc, eqb}
use Rattle.std.specs.List.{list_all, suffix_len}
use Rattle.std.proofs.lemmas.Bool.{cases_Bool, eq-eqb, ne_eqb, and_parts, false≢true}
use Rattle.mr_lanes.specs.Kernels.{is_space}
use Rattle.mr_pieces.specs.Pieces.{trimmed, trim_onto}
use Rattle.mr_pieces.proofs.Restoring.{spaces_back}
use Rattle.mr_pieces.proofs.Whole.{both_parts}

blank_trim : (xs : List ℕ) → list_all is_space xs ≡ true → trimmed xs ≡ []
blank_trim [] h = refl
blank_trim (c ∷ xs) h =
    let parts = and_parts (is_space c) (list_all is_space xs) h in
    ap (trim_onto c) (blank_trim xs parts.1) ∙ rw parts.0 refl

all_spaces : (k : ℕ) → list_all is_space (replicate k 32) ≡ true
all_spaces zero = refl
all_spaces (suc k) = all_spaces k

none_left : (xs : List ℕ) → length xs ≡ 0 → xs ≡ []
none_left [] h = refl
none_left (x ∷ xs) h = absurd (omega arith)

pub blank_test : (xs : List ℕ) (spaces : ℕ) → spaces ≡ suffix_len is_space xs → eqb spaces (length xs) ≡ list_all is_space xs
blank_test xs spaces is =
    let parts = both_parts xs in
    elim (cases_Bool (list_all is_space xs)) [
      | inl all ↦
          let none : length (trimmed xs) ≡ 0 = ap (λ (l : List ℕ). length l) (blank_trim xs all) in
          eq-eqb spaces (length xs) (omega arith) ∙ sym all
      | inr some ↦
          let other : spaces ≢ length xs = λ same.
          let none : length (trimmed xs) ≡ 0 = omega arith in
          let whole : replicate spaces 32 ≡ xs = ap (λ (k : ℕ). replicate k 32) is ∙ ap (λ (l : List ℕ). l ++ replicate (suffix_len is_space xs) 32) (sym (none_left (trimmed xs) none)) ∙ spaces_back xs in
          false≢true (sym some ∙ ap (list_all is_space) (sym whole) ∙ all_spaces spaces) in
          ne_eqb spaces (length xs) other ∙ sym some
    ]
