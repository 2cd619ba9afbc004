-- Folding passes through pieces: marks and spaces are no letters.
use Rattle.std.proofs.Common.{◌≡◌, ℕ, zero, suc, ◌≤◌, ◌<◌, List, [], ◌∷◌, ◌++◌, length, map, take, drop, replicate, refl, sym, ap, ◌∙◌, arith, inl, inr}
use Rattle.std.proofs.lemmas.Bool.{cases_order}
use Rattle.std.proofs.lemmas.Bool.Decides.{nat_tests}
use Rattle.std.proofs.lemmas.List.{take_at, drop_at}
use Rattle.mr_lanes.specs.Kernels.{upper}
use Rattle.mr_pieces.specs.Pieces.{text_from, mark, trimmed}
use Rattle.mr_pieces.proofs.Texts.{mark_below, mark_space, mark_above, mark_bounds}
use Rattle.mr_pieces.proofs.Restoring.{trimmed_upper}

upper_mark : (m : ℕ) → m ≤ 3 → upper m ≡ m
upper_mark m h = grind (arith, nat_tests)

upper_below : (c : ℕ) → c < 32 → upper c < 32
upper_below c h = grind (arith, nat_tests)

upper_above : (c : ℕ) → 32 < c → 32 < upper c
upper_above c h = grind (arith, nat_tests)

upper_blank : (c : ℕ) → c ≡ 32 → upper c ≡ 32
upper_blank c h = grind (arith, nat_tests)

pub mark_upper : (text : List ℕ) → mark (map upper text) ≡ mark text
mark_upper [] = refl
mark_upper (c ∷ text) =
    elim (cases_order c 32) [
      | inl space ↦ mark_space (upper c) (map upper text) (upper_blank c space) ∙ mark_upper text ∙ sym (mark_space c text space)
      | inr (inl below) ↦ mark_below (upper c) (map upper text) (upper_below c below) ∙ sym (mark_below c text below)
      | inr (inr above) ↦ mark_above (upper c) (map upper text) (upper_above c above) ∙ sym (mark_above c text above)
    ]

pad_upper : (n : ℕ) → map upper (replicate n 32 ++ 2 ∷ []) ≡ replicate n 32 ++ 2 ∷ []
pad_upper zero = refl
pad_upper (suc n) = ap (λ (l : List ℕ). 32 ∷ l) (pad_upper n)

pub from_upper : (left : ℕ) (text : List ℕ) → map upper (text_from left text) ≡ text_from left (map upper text)
from_upper left [] = pad_upper left
from_upper zero (c ∷ text) =
    let bounds = mark_bounds (c ∷ text) in
    let m : upper (mark (c ∷ text)) ≡ mark (upper c ∷ map upper text) = upper_mark (mark (c ∷ text)) bounds.1 ∙ sym (mark_upper (c ∷ text)) in
    rw (m, from_upper 7 text) refl
from_upper (suc left) (c ∷ text) = ap (λ (l : List ℕ). upper c ∷ l) (from_upper left text)

-- what was added behind a start is folded there
pub folded_behind : (old text grown done : List ℕ) (start : ℕ) → start ≡ length old → grown ≡ old ++ text_from 8 (trimmed text) → done ≡ take start grown ++ map upper (drop start grown) → done ≡ old ++ text_from 8 (trimmed (map upper text))
folded_behind old text grown done start start_is grown_is done_is =
    let added = text_from 8 (trimmed text) in
    let front : take start grown ≡ old = ap (take start) grown_is ∙ take_at old added start (sym start_is) in
    let back : drop start grown ≡ added = ap (drop start) grown_is ∙ drop_at old added start (sym start_is) in
    done_is ∙ rw (front, back, from_upper 8 (trimmed text), trimmed_upper text) refl
