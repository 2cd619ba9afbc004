-- What a cursor over chunks stands on.
use Rattle.std.proofs.Common.{◌≡◌, ℕ, ◌+◌, ◌<◌, ◌≤◌, true, false, List, [], ◌∷◌, length, get_or, take, drop, suc, zero, Some, None, is_some, is_none, refl, sym, ◌∙◌, ap, subst, inl, inr, arith, add-one, nat_le}
use Rattle.std.proofs.lemmas.Bool.{cases_lt}
use Rattle.std.proofs.lemmas.Bool.Decides.{nat_tests}
use Rattle.mr_iter.specs.Versions.{first}
use Rattle.mr_memtable.specs.declared.piece.Piece.{Piece}
use Rattle.mr_memtable.specs.declared.slot.Slot.{Slot}
use Rattle.mr_memtable.specs.declared.chunk.Chunk.{Chunk}
use Rattle.mr_memtable.specs.Slots.{version_at, versions_at, Fits, no_slot}
use Rattle.mr_memtable.specs.Chunks.{listed, sizes, sum_of, AllFit}
use Rattle.mr_memtable.specs.Tables.{IsStanding, flat, versions_in}
use Rattle.mr_memtable.specs.Standing.{some_below}
use Rattle.mr_memtable.proofs.ChunkLaws.{length-sizes, size_is}
use Rattle.mr_memtable.proofs.Places.{length-listed, in_chunk, fit_at, fit_one}

pub sum_more : (ns : List ℕ) (i : ℕ) → i < length ns → sum_of (take (i + 1) ns) ≡ sum_of (take i ns) + get_or ns i 0
sum_more ns i lt = ap (λ (m : ℕ). sum_of (take m ns)) (add-one i) ∙ go ns i lt
  where
    go : (ns : List ℕ) (i : ℕ) → i < length ns → sum_of (take (suc i) ns) ≡ sum_of (take i ns) + get_or ns i 0
    go [] i lt = absurd (omega arith)
    go (n ∷ ns) zero lt = omega arith
    go (n ∷ ns) (suc i) lt = omega (arith, go ns i (omega arith))

sum_within : (ns : List ℕ) (i : ℕ) → i < length ns → sum_of (take i ns) + get_or ns i 0 ≤ sum_of ns
sum_within [] i lt = absurd (omega arith)
sum_within (n ∷ ns) zero lt = omega arith
sum_within (n ∷ ns) (suc i) lt = omega (arith, sum_within ns i (omega arith))

sum_all : (ns : List ℕ) (i : ℕ) → length ns ≤ i → sum_of (take i ns) ≡ sum_of ns
sum_all [] zero le = refl
sum_all [] (suc i) le = refl
sum_all (n ∷ ns) zero le = absurd (omega arith)
sum_all (n ∷ ns) (suc i) le = ap (λ m. n + m) (sum_all ns i (omega arith))

pub length-versions : (pieces : List Piece) (ss : List Slot) → length (versions_at pieces ss) ≡ length ss
length-versions pieces [] = refl
length-versions pieces (s ∷ ss) = ap suc (length-versions pieces ss)

first_some : (pieces : List Piece) (ss : List Slot) (n : ℕ) → n < length ss → first (drop n (versions_at pieces ss)) ≡ Some (version_at pieces (get_or ss n no_slot))
first_some pieces [] n lt = absurd (omega arith)
first_some pieces (s ∷ ss) zero lt = refl
first_some pieces (s ∷ ss) (suc n) lt = first_some pieces ss n (omega arith)

first_none : (pieces : List Piece) (ss : List Slot) (n : ℕ) → length ss ≤ n → first (drop n (versions_at pieces ss)) ≡ None
first_none pieces [] zero le = refl
first_none pieces [] (suc n) le = refl
first_none pieces (s ∷ ss) zero le = absurd (omega arith)
first_none pieces (s ∷ ss) (suc n) le = first_none pieces ss n (omega arith)

flat_below : (ns : List ℕ) (chunk at : ℕ) → IsStanding ns chunk at → chunk < length ns → flat ns chunk at < sum_of ns
flat_below ns chunk at stands lt = let here : at < get_or ns chunk 0 = stands.on lt in omega (arith, sum_within ns chunk lt, here)

flat_end : (ns : List ℕ) (chunk at : ℕ) → IsStanding ns chunk at → length ns ≤ chunk → flat ns chunk at ≡ sum_of ns
flat_end ns chunk at stands le = let none : at < 1 = stands.behind le in omega (arith, sum_all ns chunk le, none)

module _ (pieces : List Piece) (cs : List Chunk) (chunk at : ℕ) (stands : IsStanding (sizes cs) chunk at) where
  pub on_chunk : is_some (first (drop (flat (sizes cs) chunk at) (versions_in pieces cs))) ≡ true → chunk < length cs
  on_chunk is = elim (cases_lt chunk (length cs)) [
    | inl less ↦ less
    | inr more ↦ absurd (omega (arith, some_below (versions_in pieces cs) (flat (sizes cs) chunk at) is, length-versions pieces (listed cs), length-listed cs, flat_end (sizes cs) chunk at stands (omega (arith, more, length-sizes cs))))
  ]

  pub on_slot : chunk < length cs → at < get_or (sizes cs) chunk 0
  on_slot lt = stands.on (omega (arith, lt, length-sizes cs))

  pub stands_on : (c : Chunk) (s : Slot) → chunk < length cs → c ≡ get_or cs chunk c → s ≡ get_or c.slots.items at s → first (drop (flat (sizes cs) chunk at) (versions_in pieces cs)) ≡ Some (version_at pieces s)
  stands_on c s lt is here =
      let e = size_is cs chunk c lt is in
      let inside : at < length c.slots.items = omega (arith, on_slot lt, e) in
      first_some pieces (listed cs) (flat (sizes cs) chunk at) (omega (arith, flat_below (sizes cs) chunk at stands (omega (arith, lt, length-sizes cs)), length-listed cs))
      ∙ ap (λ (t : Slot). Some (version_at pieces t)) (in_chunk cs chunk at c no_slot lt is inside ∙ default_of c.slots.items at inside ∙ sym here)
    where
      default_of : (ss : List Slot) (i : ℕ) → i < length ss → get_or ss i no_slot ≡ get_or ss i s
      default_of [] i lt = absurd (omega arith)
      default_of (t ∷ ss) zero lt = refl
      default_of (t ∷ ss) (suc i) lt = default_of ss i (omega arith)

  pub fits_there : (c : Chunk) (s : Slot) → chunk < length cs → c ≡ get_or cs chunk c → s ≡ get_or c.slots.items at s → AllFit pieces cs → Fits pieces s
  fits_there c s lt is here all =
      let e = size_is cs chunk c lt is in
      subst (Fits pieces) (sym here) (fit_one pieces c.slots.items at s (omega (arith, on_slot lt, e)) (fit_at pieces cs chunk c lt is all))

  pub end_test : nat_le (length cs) chunk ≡ is_none (first (drop (flat (sizes cs) chunk at) (versions_in pieces cs)))
  end_test = elim (cases_lt chunk (length cs)) [
    | inl less ↦
        let e = first_some pieces (listed cs) (flat (sizes cs) chunk at) (omega (arith, flat_below (sizes cs) chunk at stands (omega (arith, less, length-sizes cs)), length-listed cs)) in
        no_end less ∙ sym (ap is_none e)
    | inr more ↦
        let e = first_none pieces (listed cs) (flat (sizes cs) chunk at) (omega (arith, flat_end (sizes cs) chunk at stands (omega (arith, more, length-sizes cs)), length-listed cs)) in
        an_end more ∙ sym (ap is_none e)
  ]
    where
      no_end : chunk < length cs → nat_le (length cs) chunk ≡ false
      no_end less = grind (arith, nat_tests)

      an_end : length cs ≤ chunk → nat_le (length cs) chunk ≡ true
      an_end more = grind (arith, nat_tests)
