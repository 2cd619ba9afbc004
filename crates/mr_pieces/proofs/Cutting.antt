-- A list is cut piece by piece.
use Rattle.std.proofs.Common.{◌≡◌, ◌≢◌, ℕ, zero, suc, ◌+◌, ◌-◌, ◌<◌, ◌≤◌, List, [], ◌∷◌, ◌++◌, length, replicate, take, drop, get_or, refl, sym, ap, subst, ◌∙◌, arith, inl, inr, append_assoc, add-one}
use Rattle.std.specs.List.{suffix_len}
use Rattle.std.proofs.lemmas.Bool.{cases_eq, eq-eqb, ne_eqb}
use Rattle.std.proofs.lemmas.List.{take-append-drop, length-take, drop_more, take_more, take_all}
use Rattle.std.proofs.lemmas.List.Sums.{suffix_len-take_yes, suffix_len-take_no}
use Rattle.mr_lanes.specs.Kernels.{is_space}
use Rattle.mr_pieces.specs.Pieces.{bytes_from, text_from, mark, trim_onto, trimmed}
use Rattle.mr_pieces.proofs.Texts.{mark_below, mark_space, mark_above}

-- ---- a full piece with more behind it

pub bytes_full : (piece : List ℕ) (b : ℕ) (rest : List ℕ) → bytes_from (length piece) (piece ++ b ∷ rest) ≡ piece ++ 9 ∷ bytes_from 8 (b ∷ rest)
bytes_full [] b rest = refl
bytes_full (x ∷ piece) b rest = ap (λ (l : List ℕ). x ∷ l) (bytes_full piece b rest)

pub text_full : (piece : List ℕ) (c : ℕ) (rest : List ℕ) → text_from (length piece) (piece ++ c ∷ rest) ≡ piece ++ mark (c ∷ rest) ∷ text_from 8 (c ∷ rest)
text_full [] c rest = refl
text_full (x ∷ piece) c rest = ap (λ (l : List ℕ). x ∷ l) (text_full piece c rest)

-- a list of more than 8 is its first 8 and more
pub bytes_step : (xs : List ℕ) → 8 < length xs → bytes_from 8 xs ≡ take 8 xs ++ 9 ∷ bytes_from 8 (drop 8 xs)
bytes_step xs long =
    let split : drop 8 xs ≡ get_or xs 8 0 ∷ drop 9 xs = drop_more xs 8 0 long in
    let len : length (take 8 xs) ≡ 8 = omega (arith, length-take 8 xs) in
    ap (bytes_from 8) (sym (take-append-drop 8 xs) ∙ ap (λ (l : List ℕ). take 8 xs ++ l) split)
    ∙ subst (λ (k : ℕ). bytes_from k (take 8 xs ++ get_or xs 8 0 ∷ drop 9 xs) ≡ take 8 xs ++ 9 ∷ bytes_from 8 (get_or xs 8 0 ∷ drop 9 xs)) len (bytes_full (take 8 xs) (get_or xs 8 0) (drop 9 xs))
    ∙ ap (λ (l : List ℕ). take 8 xs ++ 9 ∷ bytes_from 8 l) (sym split)

pub text_step : (xs : List ℕ) → 8 < length xs → text_from 8 xs ≡ take 8 xs ++ mark (drop 8 xs) ∷ text_from 8 (drop 8 xs)
text_step xs long =
    let split : drop 8 xs ≡ get_or xs 8 0 ∷ drop 9 xs = drop_more xs 8 0 long in
    let len : length (take 8 xs) ≡ 8 = omega (arith, length-take 8 xs) in
    ap (text_from 8) (sym (take-append-drop 8 xs) ∙ ap (λ (l : List ℕ). take 8 xs ++ l) split)
    ∙ subst (λ (k : ℕ). text_from k (take 8 xs ++ get_or xs 8 0 ∷ drop 9 xs) ≡ take 8 xs ++ mark (get_or xs 8 0 ∷ drop 9 xs) ∷ text_from 8 (get_or xs 8 0 ∷ drop 9 xs)) len (text_full (take 8 xs) (get_or xs 8 0) (drop 9 xs))
    ∙ ap (λ (l : List ℕ). take 8 xs ++ mark l ∷ text_from 8 l) (sym split)

-- ---- the last piece

pub bytes_last : (left : ℕ) (xs : List ℕ) → length xs ≤ left → left ≤ 8 → bytes_from left xs ≡ xs ++ replicate (left - length xs) 0 ++ (8 - (left - length xs)) ∷ []
bytes_last left [] short fits = let e : left - 0 ≡ left = omega arith in rw e refl
bytes_last zero (x ∷ xs) short fits = absurd (omega arith)
bytes_last (suc left) (x ∷ xs) short fits =
    let e : suc left - suc (length xs) ≡ left - length xs = omega arith in
    rw e (ap (λ (l : List ℕ). x ∷ l) (bytes_last left xs (omega arith) (omega arith)))

pub text_last : (left : ℕ) (xs : List ℕ) → length xs ≤ left → text_from left xs ≡ xs ++ replicate (left - length xs) 32 ++ 2 ∷ []
text_last left [] short = let e : left - 0 ≡ left = omega arith in rw e refl
text_last zero (x ∷ xs) short = absurd (omega arith)
text_last (suc left) (x ∷ xs) short =
    let e : suc left - suc (length xs) ≡ left - length xs = omega arith in
    rw e (ap (λ (l : List ℕ). x ∷ l) (text_last left xs (omega arith)))

pub bytes_end : (xs : List ℕ) → length xs ≤ 8 → bytes_from 8 xs ≡ xs ++ replicate (8 - length xs) 0 ++ length xs ∷ []
bytes_end xs short =
    let count : 8 - (8 - length xs) ≡ length xs = omega arith in
    rw count at (bytes_last 8 xs short (omega arith))

-- ---- what the loops keep: f cuts into pieces, m stands behind one

pub cut_more : (f : List ℕ → List ℕ) (m : ℕ) (rest piece after out grown marked goal : List ℕ) → f rest ≡ take 8 rest ++ m ∷ f (drop 8 rest) → piece ≡ take 8 rest → after ≡ drop 8 rest → grown ≡ out ++ piece → marked ≡ grown ++ m ∷ [] → out ++ f rest ≡ goal → marked ++ f after ≡ goal
cut_more f m rest piece after out grown marked goal step front back grown_is marked_is so_far =
    rw (marked_is, grown_is, front, back, append_assoc, append_assoc) (rw step at so_far)

pub cut_last : (f : List ℕ → List ℕ) (fill m : ℕ) (rest out grown filled marked goal : List ℕ) → f rest ≡ rest ++ replicate (8 - length rest) fill ++ m ∷ [] → grown ≡ out ++ rest → filled ≡ grown ++ replicate (8 - length rest) fill → marked ≡ filled ++ m ∷ [] → out ++ f rest ≡ goal → marked ≡ goal
cut_last f fill m rest out grown filled marked goal last grown_is filled_is marked_is so_far =
    rw (marked_is, filled_is, grown_is, append_assoc, append_assoc) (rw (last, append_assoc) at so_far)

-- ---- marks in a loop

pub mark_more : (xs : List ℕ) (i : ℕ) → i < length xs → get_or xs i 0 ≡ 32 → mark (drop i xs) ≡ mark (drop (i + 1) xs)
mark_more xs i within space = rw (drop_more xs i 0 within) (mark_space (get_or xs i 0) (drop (i + 1) xs) space)

pub mark_low : (xs : List ℕ) (i : ℕ) → i < length xs → get_or xs i 0 < 32 → mark (drop i xs) ≡ 1
mark_low xs i within below = rw (drop_more xs i 0 within) (mark_below (get_or xs i 0) (drop (i + 1) xs) below)

pub mark_high : (xs : List ℕ) (i : ℕ) → i < length xs → 32 < get_or xs i 0 → mark (drop i xs) ≡ 3
mark_high xs i within above = rw (drop_more xs i 0 within) (mark_above (get_or xs i 0) (drop (i + 1) xs) above)

-- ---- trimming from the end

pub push_space : (xs : List ℕ) → trimmed (xs ++ 32 ∷ []) ≡ trimmed xs
push_space [] = refl
push_space (x ∷ xs) = ap (trim_onto x) (push_space xs)

onto_some : (x : ℕ) (xs : List ℕ) (c : ℕ) → trim_onto x (xs ++ c ∷ []) ≡ x ∷ (xs ++ c ∷ [])
onto_some x [] c = refl
onto_some x (y ∷ xs) c = refl

pub push_other : (xs : List ℕ) (c : ℕ) → c ≢ 32 → trimmed (xs ++ c ∷ []) ≡ xs ++ c ∷ []
push_other [] c other = rw (ne_eqb c 32 other) refl
push_other (x ∷ xs) c other = ap (trim_onto x) (push_other xs c other) ∙ onto_some x xs c

trimmed_front : (n : ℕ) (xs : List ℕ) → n ≤ length xs → trimmed (take n xs) ≡ take (n - suffix_len is_space (take n xs)) xs
trimmed_front zero xs within = refl
trimmed_front (suc n) xs within =
    let more : take (suc n) xs ≡ take n xs ++ get_or xs n 0 ∷ [] = rw (← add-one n) (take_more xs n 0 within) in
    elim (cases_eq (get_or xs n 0) 32) [
      | inl space ↦
          let down : suc n - 1 ≡ n = omega arith in
          let count : suffix_len is_space (take (suc n) xs) ≡ 1 + suffix_len is_space (take n xs) =
          rw down at (suffix_len-take_yes is_space xs (suc n) 0 (omega arith) within (rw down (eq-eqb (get_or xs n 0) 32 space))) in
          let left : suc n - (1 + suffix_len is_space (take n xs)) ≡ n - suffix_len is_space (take n xs) = omega arith in
          rw (count, left, more, space) (push_space (take n xs) ∙ trimmed_front n xs (omega arith))
      | inr other ↦
          let down : suc n - 1 ≡ n = omega arith in
          let count : suffix_len is_space (take (suc n) xs) ≡ 0 =
          suffix_len-take_no is_space xs (suc n) 0 (omega arith) within (rw down (ne_eqb (get_or xs n 0) 32 other)) in
          let left : suc n - 0 ≡ suc n = omega arith in
          rw (count, left, more) (push_other (take n xs) (get_or xs n 0) other)
    ]

pub trimmed_is : (xs : List ℕ) → trimmed xs ≡ take (length xs - suffix_len is_space xs) xs
trimmed_is xs =
    let all : take (length xs) xs ≡ xs = take_all (length xs) xs (omega arith) in
    let e = trimmed_front (length xs) xs (omega arith) in
    rw all at e
