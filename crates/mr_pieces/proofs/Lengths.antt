-- Where a byte lies in pieces, and how many there are.
use Rattle.std.proofs.Common.{◌≡◌, ℕ, zero, suc, ◌+◌, ◌-◌, ◌*◌, ◌/◌, ◌<◌, ◌≤◌, List, [], ◌∷◌, ◌++◌, length, replicate, take, drop, get_or, refl, sym, ap, ◌∙◌, arith, inl, inr, append_assoc, length-drop}
use Rattle.std.specs.List.{suffix_len}
use Rattle.std.proofs.lemmas.Bool.{cases_lt}
use Rattle.std.proofs.lemmas.List.{length-append, length-replicate, length-take, take_at, drop_at, drop-drop, get_or_at, get_or-drop}
use Rattle.std.proofs.lemmas.List.Sums.{suffix_len-le-length}
use Rattle.mr_lanes.specs.Kernels.{is_space}
use Rattle.mr_pieces.specs.Pieces.{bytes_from, text_from, mark}
use Rattle.mr_pieces.proofs.Texts.{IsTrimmed}
use Rattle.mr_pieces.proofs.TextTrip.{trimmed_same, trimmed_pad, IsTrimmed-drop}
use Rattle.mr_pieces.proofs.Cutting.{text_step, text_last, bytes_step, bytes_end, trimmed_is}

-- ---- a byte at its place

next_place : (left a : ℕ) → left ≤ 7 → suc a + (suc a + 8 - suc left) / 8 ≡ suc (a + (a + 8 - left) / 8)
next_place left a fits = omega arith

after_mark : (a : ℕ) → suc a + (suc a + 8 - 0) / 8 ≡ suc (suc (a + (a + 8 - 7) / 8))
after_mark a = omega arith

text_place : (left : ℕ) (t : List ℕ) (at : ℕ) → left ≤ 8 → at < length t → get_or (text_from left t) (at + (at + 8 - left) / 8) 0 ≡ get_or t at 0
text_place left [] at fits within = absurd (omega arith)
text_place zero (c ∷ t) zero fits within = refl
text_place zero (c ∷ t) (suc a) fits within = ap (λ (n : ℕ). get_or (mark (c ∷ t) ∷ c ∷ text_from 7 t) n 0) (after_mark a) ∙ text_place 7 t a (omega arith) (omega arith)
text_place (suc left) (c ∷ t) zero fits within = let e : (8 - suc left) / 8 ≡ 0 = omega arith in rw e refl
text_place (suc left) (c ∷ t) (suc a) fits within = ap (λ (n : ℕ). get_or (c ∷ text_from left t) n 0) (next_place left a (omega arith)) ∙ text_place left t a (omega arith) (omega arith)

bytes_place : (left : ℕ) (t : List ℕ) (at : ℕ) → left ≤ 8 → at < length t → get_or (bytes_from left t) (at + (at + 8 - left) / 8) 0 ≡ get_or t at 0
bytes_place left [] at fits within = absurd (omega arith)
bytes_place zero (c ∷ t) zero fits within = refl
bytes_place zero (c ∷ t) (suc a) fits within = ap (λ (n : ℕ). get_or (9 ∷ c ∷ bytes_from 7 t) n 0) (after_mark a) ∙ bytes_place 7 t a (omega arith) (omega arith)
bytes_place (suc left) (c ∷ t) zero fits within = let e : (8 - suc left) / 8 ≡ 0 = omega arith in rw e refl
bytes_place (suc left) (c ∷ t) (suc a) fits within = ap (λ (n : ℕ). get_or (c ∷ bytes_from left t) n 0) (next_place left a (omega arith)) ∙ bytes_place left t a (omega arith) (omega arith)

whole_free : (at : ℕ) → at + (at + 8 - 8) / 8 ≡ at + at / 8
whole_free at = omega arith

pub text_at : (t : List ℕ) (at : ℕ) → at < length t → get_or (text_from 8 t) (at + at / 8) 0 ≡ get_or t at 0
text_at t at within = rw (whole_free at) at (text_place 8 t at (omega arith) within)

pub bytes_at : (t : List ℕ) (at : ℕ) → at < length t → get_or (bytes_from 8 t) (at + at / 8) 0 ≡ get_or t at 0
bytes_at t at within = rw (whole_free at) at (bytes_place 8 t at (omega arith) within)

-- ---- how many

-- the last piece, behind q others; what fills it up stands in `pad`
pub record EndsIn (f : List ℕ → List ℕ) (pad : ℕ → List ℕ) (t : List ℕ) : Type 0 where
  pub q : ℕ
  pub whole : length (f t) ≡ 9 * q + 9
  pub below : 8 * q ≤ length t
  pub above : length t ≤ 8 * q + 8
  pub last : drop (9 * q) (f t) ≡ drop (8 * q) t ++ pad (length t - 8 * q)

ends_short : (f : List ℕ → List ℕ) (pad : ℕ → List ℕ) (t : List ℕ) → length t ≤ 8 → f t ≡ t ++ pad (length t) → length (pad (length t)) ≡ 9 - length t → EndsIn f pad t
ends_short f pad t short is pad_len =
    let none : length t - 8 * 0 ≡ length t = omega arith in
    record {
      q = 0;
      whole = rw is (omega (arith, length-append t (pad (length t))));
      below = omega arith;
      above = omega arith;
      last = rw none is;
    }

ends_more : (f : List ℕ → List ℕ) (pad : ℕ → List ℕ) (t : List ℕ) (m : ℕ) → 8 < length t → f t ≡ take 8 t ++ m ∷ f (drop 8 t) → EndsIn f pad (drop 8 t) → EndsIn f pad t
ends_more f pad t m long is rest =
    let eight : length (take 8 t) ≡ 8 = omega (arith, length-take 8 t) in
    let nine : length (take 8 t ++ m ∷ []) ≡ 9 = omega (arith, length-append (take 8 t) (m ∷ [])) in
    let fewer : length (drop 8 t) ≡ length t - 8 = length-drop 8 t in
    let behind : drop 9 (f t) ≡ f (drop 8 t) = ap (drop 9) (is ∙ sym (append_assoc (take 8 t) (m ∷ []) (f (drop 8 t)))) ∙ drop_at (take 8 t ++ m ∷ []) (f (drop 8 t)) 9 nine in
    let nines : 9 * suc rest.q ≡ 9 + 9 * rest.q = omega arith in
    let eights : 8 * suc rest.q ≡ 8 + 8 * rest.q = omega arith in
    let left : length t - 8 * suc rest.q ≡ length (drop 8 t) - 8 * rest.q = omega arith in
    record {
      q = suc rest.q;
      whole = rw is (omega (arith, length-append (take 8 t) (m ∷ f (drop 8 t)), rest.whole));
      below = let b = rest.below in omega arith;
      above = let a = rest.above in omega arith;
      last =
          ap (λ (n : ℕ). drop n (f t)) nines ∙ sym (drop-drop (9 * rest.q) 9 (f t)) ∙ ap (drop (9 * rest.q)) behind ∙ rest.last
          ∙ ap (λ (l : List ℕ). l ++ pad (length (drop 8 t) - 8 * rest.q)) (drop-drop (8 * rest.q) 8 t ∙ ap (λ (n : ℕ). drop n t) (sym eights))
          ∙ ap (λ (n : ℕ). drop (8 * suc rest.q) t ++ pad n) (sym left);
    }

abbrev pub text_pad : ℕ → List ℕ
text_pad r = replicate (8 - r) 32 ++ 2 ∷ []

abbrev pub bytes_pad : ℕ → List ℕ
bytes_pad r = replicate (8 - r) 0 ++ r ∷ []

text_ends : (fuel : ℕ) (t : List ℕ) → length t ≤ fuel → EndsIn (text_from 8) text_pad t
text_ends zero t few = ends_short (text_from 8) text_pad t (omega arith) (text_last 8 t (omega arith) ∙ append_assoc t (replicate (8 - length t) 32) (2 ∷ [])) (omega (arith, length-append {A = ℕ} (replicate (8 - length t) 32) (2 ∷ []), length-replicate {A = ℕ} (8 - length t) 32))
text_ends (suc fuel) t few =
    elim (cases_lt 8 (length t)) [
      | inl long ↦ ends_more (text_from 8) text_pad t (mark (drop 8 t)) long (text_step t long) (text_ends fuel (drop 8 t) (omega (arith, length-drop 8 t)))
      | inr short ↦ ends_short (text_from 8) text_pad t short (text_last 8 t short ∙ append_assoc t (replicate (8 - length t) 32) (2 ∷ [])) (omega (arith, length-append {A = ℕ} (replicate (8 - length t) 32) (2 ∷ []), length-replicate {A = ℕ} (8 - length t) 32))
    ]

bytes_ends : (fuel : ℕ) (t : List ℕ) → length t ≤ fuel → EndsIn (bytes_from 8) bytes_pad t
bytes_ends zero t few = ends_short (bytes_from 8) bytes_pad t (omega arith) (bytes_end t (omega arith) ∙ append_assoc t (replicate (8 - length t) 0) (length t ∷ [])) (omega (arith, length-append {A = ℕ} (replicate (8 - length t) 0) (length t ∷ []), length-replicate {A = ℕ} (8 - length t) 0))
bytes_ends (suc fuel) t few =
    elim (cases_lt 8 (length t)) [
      | inl long ↦ ends_more (bytes_from 8) bytes_pad t 9 long (bytes_step t long) (bytes_ends fuel (drop 8 t) (omega (arith, length-drop 8 t)))
      | inr short ↦ ends_short (bytes_from 8) bytes_pad t short (bytes_end t short ∙ append_assoc t (replicate (8 - length t) 0) (length t ∷ [])) (omega (arith, length-append {A = ℕ} (replicate (8 - length t) 0) (length t ∷ []), length-replicate {A = ℕ} (8 - length t) 0))
    ]

-- the spaces behind a text that ends in none
pub spaces_behind : (xs : List ℕ) (k : ℕ) → IsTrimmed xs → suffix_len is_space (xs ++ replicate k 32) ≡ k
spaces_behind xs k ends =
    let ys = xs ++ replicate k 32 in
    let front : xs ≡ take (length ys - suffix_len is_space ys) ys = sym (trimmed_same xs ends) ∙ sym (trimmed_pad k xs) ∙ trimmed_is ys in
    let size : length xs ≡ length (take (length ys - suffix_len is_space ys) ys) = ap (λ (l : List ℕ). length l) front in
    omega (arith, size, length-take (length ys - suffix_len is_space ys) ys, suffix_len-le-length is_space ys, length-append xs (replicate k 32), length-replicate {A = ℕ} k 32)

pub text_count : (t pieces last : List ℕ) → pieces ≡ text_from 8 t → IsTrimmed t → last ≡ take 8 (drop (length pieces - 9) pieces) → length pieces / 9 * 8 - suffix_len is_space last ≡ length t
text_count t pieces last is ends last_is =
    let e = text_ends (length t) t (omega arith) in
    let size : length pieces ≡ 9 * e.q + 9 = rw is e.whole in
    let at : length pieces - 9 ≡ 9 * e.q = omega arith in
    let k = 8 - (length t - 8 * e.q) in
    let tail = drop (8 * e.q) t in
    let full : length (tail ++ replicate k 32) ≡ 8 = let b = e.below in let a = e.above in omega (arith, length-append tail (replicate k 32), length-replicate {A = ℕ} k 32, length-drop (8 * e.q) t) in
    let piece : last ≡ tail ++ replicate k 32 =
    last_is ∙ ap (λ (n : ℕ). take 8 (drop n pieces)) at ∙ ap (λ (l : List ℕ). take 8 (drop (9 * e.q) l)) is ∙ ap (take 8) (e.last ∙ sym (append_assoc tail (replicate k 32) (2 ∷ []))) ∙ take_at (tail ++ replicate k 32) (2 ∷ []) 8 full in
    let blanks : suffix_len is_space last ≡ k = ap (suffix_len is_space) piece ∙ spaces_behind tail k (IsTrimmed-drop (8 * e.q) t ends) in
    let b = e.below in let a = e.above in omega arith

pub bytes_count : (t pieces : List ℕ) → pieces ≡ bytes_from 8 t → length pieces / 9 * 8 - 8 + get_or pieces (length pieces - 1) 0 ≡ length t
bytes_count t pieces is =
    let e = bytes_ends (length t) t (omega arith) in
    let size : length pieces ≡ 9 * e.q + 9 = rw is e.whole in
    let r = length t - 8 * e.q in
    let tail = drop (8 * e.q) t in
    let full : length (tail ++ replicate (8 - r) 0) ≡ 8 = let b = e.below in let a = e.above in omega (arith, length-append tail (replicate (8 - r) 0), length-replicate {A = ℕ} (8 - r) 0, length-drop (8 * e.q) t) in
    let place : length pieces - 1 ≡ 9 * e.q + 8 = omega arith in
    let count : get_or pieces (length pieces - 1) 0 ≡ r =
    ap (λ (n : ℕ). get_or pieces n 0) place ∙ ap (λ (l : List ℕ). get_or l (9 * e.q + 8) 0) is ∙ sym (get_or-drop (9 * e.q) (bytes_from 8 t) 8 0)
    ∙ ap (λ (l : List ℕ). get_or l 8 0) (e.last ∙ sym (append_assoc tail (replicate (8 - r) 0) (r ∷ []))) ∙ get_or_at (tail ++ replicate (8 - r) 0) r [] 0 8 full in
    let b = e.below in let a = e.above in omega arith

-- ---- room

pub text_room : (t pieces : List ℕ) → pieces ≡ text_from 8 t → 9 ≤ length pieces
text_room t pieces is = let e = text_ends (length t) t (omega arith) in let w = e.whole in rw is (omega arith)

pub bytes_room : (t pieces : List ℕ) → pieces ≡ bytes_from 8 t → 9 ≤ length pieces
bytes_room t pieces is = let e = bytes_ends (length t) t (omega arith) in let w = e.whole in rw is (omega arith)

pub text_within : (t pieces : List ℕ) (at : ℕ) → pieces ≡ text_from 8 t → at < length t → at + at / 8 < length pieces
text_within t pieces at is within = let e = text_ends (length t) t (omega arith) in let w = e.whole in let a = e.above in rw is (omega arith)

pub bytes_within : (t pieces : List ℕ) (at : ℕ) → pieces ≡ bytes_from 8 t → at < length t → at + at / 8 < length pieces
bytes_within t pieces at is within = let e = bytes_ends (length t) t (omega arith) in let w = e.whole in let a = e.above in rw is (omega arith)

pub last_piece : (pieces : List ℕ) → 9 ≤ length pieces → take (length pieces - 1 - (length pieces - 1 - 8)) (drop (length pieces - 1 - 8) pieces) ≡ take 8 (drop (length pieces - 9) pieces)
last_piece pieces room =
    let size : length pieces - 1 - (length pieces - 1 - 8) ≡ 8 = omega arith in
    let start : length pieces - 1 - 8 ≡ length pieces - 9 = omega arith in
    ap (λ (n : ℕ). take n (drop (length pieces - 1 - 8) pieces)) size ∙ ap (λ (n : ℕ). take 8 (drop n pieces)) start

pub text_fits : (t pieces : List ℕ) → pieces ≡ text_from 8 t → length t ≤ length pieces / 9 * 8
text_fits t pieces is = let e = text_ends (length t) t (omega arith) in let w = e.whole in let a = e.above in rw is (omega arith)
