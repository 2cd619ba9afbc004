-- Places in a list in chunks.
use Rattle.std.proofs.Common.{◌≡◌, ℕ, ◌+◌, ◌-◌, ◌<◌, ◌≤◌, true, false, List, [], ◌∷◌, ◌++◌, length, get_or, take, suc, zero, refl, sym, ◌∙◌, ap, subst, arith, add-one, length-append}
use Rattle.std.specs.List.{AllByRecursion}
use Rattle.std.proofs.Common.{inl, inr}
use Rattle.std.proofs.lemmas.Bool.{cases_lt}
use Rattle.std.proofs.lemmas.List.{get_or-append-add}
use Rattle.std.proofs.Math.ListN.{get_or-append}
use Rattle.mr_base.specs.declared.stop.Direction.{Direction}
use Rattle.mr_iter.specs.Versions.{Version}
use Rattle.mr_memtable.specs.declared.piece.Piece.{Piece}
use Rattle.mr_memtable.specs.declared.slot.Slot.{Slot}
use Rattle.mr_memtable.specs.declared.chunk.Chunk.{Chunk}
use Rattle.mr_memtable.specs.Slots.{Fits, goes_before, no_slot, IsPlace}
use Rattle.mr_memtable.specs.Chunks.{listed, sizes, sum_of, first_slot, AllFit}

pub first_is : (cs : List Chunk) (i : ℕ) (c : Chunk) → i < length cs → c ≡ get_or cs i c → first_slot cs i ≡ get_or c.slots.items 0 no_slot
first_is [] i c lt at = absurd (omega arith)
first_is (b ∷ bs) zero c lt at = ap (λ (d : Chunk). get_or d.slots.items 0 no_slot) (sym at)
first_is (b ∷ bs) (suc i) c lt at = first_is bs i c (omega arith) at

pub some_at : (cs : List Chunk) (i : ℕ) (c : Chunk) → i < length cs → c ≡ get_or cs i c → AllByRecursion (λ n. 1 ≤ n) (sizes cs) → 1 ≤ length c.slots.items
some_at [] i c lt at all = absurd (omega arith)
some_at (b ∷ bs) zero c lt at all = subst (λ (d : Chunk). 1 ≤ length d.slots.items) (sym at) all.0
some_at (b ∷ bs) (suc i) c lt at all = some_at bs i c (omega arith) at all.1

pub fit_at : (pieces : List Piece) (cs : List Chunk) (i : ℕ) (c : Chunk) → i < length cs → c ≡ get_or cs i c → AllFit pieces cs → AllByRecursion (Fits pieces) c.slots.items
fit_at pieces [] i c lt at all = absurd (omega arith)
fit_at pieces (b ∷ bs) zero c lt at all = subst (λ (d : Chunk). AllByRecursion (Fits pieces) d.slots.items) (sym at) all.0
fit_at pieces (b ∷ bs) (suc i) c lt at all = fit_at pieces bs i c (omega arith) at all.1

pub fit_one : (pieces : List Piece) (ss : List Slot) (i : ℕ) (d : Slot) → i < length ss → AllByRecursion (Fits pieces) ss → Fits pieces (get_or ss i d)
fit_one pieces [] i d lt all = absurd (omega arith)
fit_one pieces (s ∷ ss) zero d lt all = all.0
fit_one pieces (s ∷ ss) (suc i) d lt all = fit_one pieces ss i d (omega arith) all.1

pub any_default : (ss : List Slot) (i : ℕ) (d e : Slot) → i < length ss → get_or ss i d ≡ get_or ss i e
any_default [] i d e lt = absurd (omega arith)
any_default (s ∷ ss) zero d e lt = refl
any_default (s ∷ ss) (suc i) d e lt = any_default ss i d e (omega arith)

pub length-listed : (cs : List Chunk) → length (listed cs) ≡ sum_of (sizes cs)
length-listed [] = refl
length-listed (c ∷ cs) = length-append c.slots.items (listed cs) ∙ ap (λ n. length c.slots.items + n) (length-listed cs)

-- slot q of chunk i in the whole list
pub in_chunk : (cs : List Chunk) (i q : ℕ) (c : Chunk) (d : Slot) → i < length cs → c ≡ get_or cs i c → q < length c.slots.items → get_or (listed cs) (sum_of (take i (sizes cs)) + q) d ≡ get_or c.slots.items q d
in_chunk [] i q c d lt at inside = absurd (omega arith)
in_chunk (b ∷ bs) zero q c d lt at inside = let e : 0 + q ≡ q = omega arith in ap (λ (n : ℕ). get_or (b.slots.items ++ listed bs) n d) e ∙ get_or-append b.slots.items (listed bs) d q (subst (λ (e : Chunk). q < length e.slots.items) at inside) ∙ ap (λ (e : Chunk). get_or e.slots.items q d) (sym at)
in_chunk (b ∷ bs) (suc i) q c d lt at inside =
    let e : (length b.slots.items + sum_of (take i (sizes bs))) + q ≡ length b.slots.items + (sum_of (take i (sizes bs)) + q) = omega arith in
    ap (λ (n : ℕ). get_or (b.slots.items ++ listed bs) n d) e ∙ get_or-append-add b.slots.items (listed bs) (sum_of (take i (sizes bs)) + q) d ∙ in_chunk bs i q c d (omega arith) at inside

-- chunk i in the whole list
pub chunk_within : (cs : List Chunk) (i : ℕ) (c : Chunk) → i < length cs → c ≡ get_or cs i c → sum_of (take i (sizes cs)) + length c.slots.items ≤ length (listed cs)
chunk_within [] i c lt at = absurd (omega arith)
chunk_within (b ∷ bs) zero c lt at = let e = ap (λ (d : Chunk). length d.slots.items) at in omega (arith, e, length-append b.slots.items (listed bs))
chunk_within (b ∷ bs) (suc i) c lt at = omega (arith, length-append b.slots.items (listed bs), chunk_within bs i c (omega arith) at)

pub chunk_last : (cs : List Chunk) (i : ℕ) (c : Chunk) → i + 1 ≡ length cs → c ≡ get_or cs i c → sum_of (take i (sizes cs)) + length c.slots.items ≡ length (listed cs)
chunk_last [] i c lt at = absurd (omega arith)
chunk_last (b ∷ []) zero c lt at = let e = ap (λ (d : Chunk). length d.slots.items) at in omega (arith, e, length-append b.slots.items [])
chunk_last (b ∷ a ∷ bs) zero c lt at = absurd (omega arith)
chunk_last (b ∷ bs) (suc i) c lt at = omega (arith, length-append b.slots.items (listed bs), chunk_last bs i c (omega arith) at)

head_listed : (b : Chunk) (bs : List Chunk) (d : Slot) → 1 ≤ length b.slots.items → get_or (listed (b ∷ bs)) 0 d ≡ get_or b.slots.items 0 d
head_listed b bs d some = get_or-append b.slots.items (listed bs) d 0 (omega (arith, some))

-- and the one behind it
pub chunk_next : (cs : List Chunk) (i : ℕ) (c : Chunk) → i + 1 < length cs → c ≡ get_or cs i c → AllByRecursion (λ n. 1 ≤ n) (sizes cs) → get_or (listed cs) (sum_of (take i (sizes cs)) + length c.slots.items) no_slot ≡ first_slot cs (i + 1)
chunk_next cs i c lt at all = go cs i lt at all ∙ ap (first_slot cs) (sym (add-one i))
  where
    go : (cs : List Chunk) (i : ℕ) → i + 1 < length cs → c ≡ get_or cs i c → AllByRecursion (λ n. 1 ≤ n) (sizes cs) → get_or (listed cs) (sum_of (take i (sizes cs)) + length c.slots.items) no_slot ≡ first_slot cs (suc i)
    go [] i lt at all = absurd (omega arith)
    go (b ∷ []) i lt at all = absurd (omega arith)
    go (b ∷ a ∷ bs) zero lt at all =
        let e : 0 + length c.slots.items ≡ length b.slots.items + 0 = let n = ap (λ (d : Chunk). length d.slots.items) at in omega (arith, n) in
        ap (λ (n : ℕ). get_or (b.slots.items ++ listed (a ∷ bs)) n no_slot) e ∙ get_or-append-add b.slots.items (listed (a ∷ bs)) 0 no_slot ∙ head_listed a bs no_slot all.1.0
    go (b ∷ a ∷ bs) (suc i) lt at all =
        let e : (length b.slots.items + sum_of (take i (sizes (a ∷ bs)))) + length c.slots.items ≡ length b.slots.items + (sum_of (take i (sizes (a ∷ bs))) + length c.slots.items) = omega arith in
        ap (λ (n : ℕ). get_or (b.slots.items ++ listed (a ∷ bs)) n no_slot) e ∙ get_or-append-add b.slots.items (listed (a ∷ bs)) (sum_of (take i (sizes (a ∷ bs))) + length c.slots.items) no_slot ∙ go (a ∷ bs) i (omega arith) at all.1

-- no chunk begins before x
pub place_first : (d : Direction) (pieces : List Piece) (x : Version) (cs : List Chunk) → AllByRecursion (λ n. 1 ≤ n) (sizes cs) → (0 < length cs → goes_before d pieces x (first_slot cs 0) ≡ false) → IsPlace d pieces x (listed cs) 0
place_first d pieces x [] all behind = record { within = omega arith; before = λ lt. absurd (omega arith); behind = λ lt. absurd (omega arith) }
place_first d pieces x (c ∷ cs) all behind = record { within = omega arith; before = λ lt. absurd (omega arith); behind = λ _. ap (goes_before d pieces x) (head_listed c cs no_slot all.0) ∙ behind (omega arith) }

-- chunk i is the last that begins before x, and q is its place there
pub place_at : (d : Direction) (pieces : List Piece) (x : Version) (cs : List Chunk) (i q : ℕ) (c : Chunk) → AllByRecursion (λ n. 1 ≤ n) (sizes cs) → i < length cs → c ≡ get_or cs i c →
    goes_before d pieces x (first_slot cs i) ≡ true → (i + 1 < length cs → goes_before d pieces x (first_slot cs (i + 1)) ≡ false) →
    q ≤ length c.slots.items → (0 < q → goes_before d pieces x (get_or c.slots.items (q - 1) no_slot) ≡ true) → (q < length c.slots.items → goes_before d pieces x (get_or c.slots.items q no_slot) ≡ false) →
    IsPlace d pieces x (listed cs) (sum_of (take i (sizes cs)) + q)
place_at d pieces x cs i q c all lt at begins next within before behind = record {
  within = omega (arith, chunk_within cs i c lt at, within);
  before = λ pos.
      let e : (sum_of (take i (sizes cs)) + q) - 1 ≡ sum_of (take i (sizes cs)) + (q - 1) = omega (arith, inside) in
      ap (λ (n : ℕ). goes_before d pieces x (get_or (listed cs) n no_slot)) e ∙ ap (goes_before d pieces x) (in_chunk cs i (q - 1) c no_slot lt at (omega (arith, inside, within))) ∙ before inside;
  behind = λ less. elim (cases_lt q (length c.slots.items)) [
    | inl here ↦ ap (goes_before d pieces x) (in_chunk cs i q c no_slot lt at here) ∙ behind here
    | inr end ↦
        let e : sum_of (take i (sizes cs)) + q ≡ sum_of (take i (sizes cs)) + length c.slots.items = omega (arith, end, within) in
        elim (cases_lt (i + 1) (length cs)) [
          | inl more ↦ ap (λ (n : ℕ). goes_before d pieces x (get_or (listed cs) n no_slot)) e ∙ ap (goes_before d pieces x) (chunk_next cs i c more at all) ∙ next more
          | inr none ↦ absurd (omega (arith, chunk_last cs i c (omega (arith, none, lt)) at, less, end, within))
        ]
  ];
}
  where
    not_first : q ≡ 0 → ⊥
    not_first e =
        let e1 : goes_before d pieces x (get_or c.slots.items 0 no_slot) ≡ true = sym (ap (goes_before d pieces x) (first_is cs i c lt at)) ∙ begins in
        let e2 : goes_before d pieces x (get_or c.slots.items q no_slot) ≡ false = behind (omega (arith, e, some_at cs i c lt at all)) in
        let e3 : goes_before d pieces x (get_or c.slots.items 0 no_slot) ≡ false = ap (λ (n : ℕ). goes_before d pieces x (get_or c.slots.items n no_slot)) (sym e) ∙ e2 in
        cc

    inside : 0 < q
    inside = elim (cases_lt 0 q) [
      | inl some ↦ some
      | inr no_more ↦ absurd (not_first (omega arith))
    ]
