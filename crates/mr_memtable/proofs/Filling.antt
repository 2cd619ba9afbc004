-- How full the chunks are.
use Rattle.std.proofs.Common.{◌≡◌, ℕ, ◌+◌, ◌*◌, ◌<◌, ◌≤◌, List, [], ◌∷◌, length, get_or, set, take, suc, zero, refl, ◌∙◌, ap, arith, add-one, mul-suc, rules}
use Rattle.std.specs.List.{AllByRecursion, insert}
use Rattle.mr_memtable.specs.Chunks.{sum_of, AreFilled}

pub all-set : (P : ℕ → Type 0) (ns : List ℕ) (i x : ℕ) → AllByRecursion P ns → P x → AllByRecursion P (set ns i x)
all-set P [] i x all here = tt
all-set P (n ∷ ns) zero x all here = (here, all.1)
all-set P (n ∷ ns) (suc i) x all here = (all.0, all-set P ns i x all.1 here)

pub all-insert : (P : ℕ → Type 0) (ns : List ℕ) (i x : ℕ) → AllByRecursion P ns → P x → AllByRecursion P (insert ns i x)
all-insert P ns zero x all here = (here, all)
all-insert P [] (suc i) x all here = search rules
all-insert P (n ∷ ns) (suc i) x all here = (all.0, all-insert P ns i x all.1 here)

pub all-at : (P : ℕ → Type 0) (ns : List ℕ) (i : ℕ) → i < length ns → AllByRecursion P ns → P (get_or ns i 0)
all-at P [] i lt all = absurd (omega arith)
all-at P (n ∷ ns) zero lt all = all.0
all-at P (n ∷ ns) (suc i) lt all = all-at P ns i (omega arith) all.1

-- a full one in two halves
abbrev pub halved : List ℕ → ℕ → List ℕ
halved ns i = insert (set ns i 128) (i + 1) 128

halved-suc : (n : ℕ) (ns : List ℕ) (i : ℕ) → halved (n ∷ ns) (suc i) ≡ n ∷ halved ns i
halved-suc n ns i = rw (add-one i, add-one (suc i)) refl

pub before_halves : (ns : List ℕ) (i : ℕ) → i < length ns → sum_of (take i (halved ns i)) ≡ sum_of (take i ns)
before_halves [] i lt = absurd (omega arith)
before_halves (n ∷ ns) zero lt = refl
before_halves (n ∷ ns) (suc i) lt = ap (λ (ms : List ℕ). sum_of (take (suc i) ms)) (halved-suc n ns i) ∙ ap (λ m. n + m) (before_halves ns i (omega arith))

pub between_halves : (ns : List ℕ) (i : ℕ) → i < length ns → sum_of (take (i + 1) (halved ns i)) ≡ sum_of (take i ns) + 128
between_halves ns i lt = ap (λ (m : ℕ). sum_of (take m (halved ns i))) (add-one i) ∙ go ns i lt
  where
    go : (ns : List ℕ) (i : ℕ) → i < length ns → sum_of (take (suc i) (halved ns i)) ≡ sum_of (take i ns) + 128
    go [] i lt = absurd (omega arith)
    go (n ∷ ns) zero lt = refl
    go (n ∷ ns) (suc i) lt = ap (λ (ms : List ℕ). sum_of (take (suc (suc i)) ms)) (halved-suc n ns i) ∙ omega (arith, go ns i (omega arith))

pub first_half : (ns : List ℕ) (i : ℕ) → i < length ns → get_or (halved ns i) i 0 ≡ 128
first_half [] i lt = absurd (omega arith)
first_half (n ∷ ns) zero lt = refl
first_half (n ∷ ns) (suc i) lt = ap (λ (ms : List ℕ). get_or ms (suc i) 0) (halved-suc n ns i) ∙ first_half ns i (omega arith)

pub second_half : (ns : List ℕ) (i : ℕ) → i < length ns → get_or (halved ns i) (i + 1) 0 ≡ 128
second_half ns i lt = ap (λ (m : ℕ). get_or (halved ns i) m 0) (add-one i) ∙ go ns i lt
  where
    go : (ns : List ℕ) (i : ℕ) → i < length ns → get_or (halved ns i) (suc i) 0 ≡ 128
    go [] i lt = absurd (omega arith)
    go (n ∷ ns) zero lt = refl
    go (n ∷ ns) (suc i) lt = ap (λ (ms : List ℕ). get_or ms (suc (suc i)) 0) (halved-suc n ns i) ∙ go ns i (omega arith)

-- where one of them is full, all are half full
pub all_half : (ns : List ℕ) (i : ℕ) → AreFilled ns → i < length ns → get_or ns i 0 ≡ 256 → AllByRecursion (λ n. 128 ≤ n) ns
all_half [] i filled lt full = tt
all_half (n ∷ []) zero filled lt full = (omega arith, tt)
all_half (n ∷ []) (suc i) filled lt full = absurd (omega arith)
all_half (n ∷ m ∷ ns) i filled lt full = filled.half (omega arith)

weaker : (ns : List ℕ) → AllByRecursion (λ n. 128 ≤ n) ns → AllByRecursion (λ n. 1 ≤ n) ns
weaker [] all = tt
weaker (n ∷ ns) all = (omega (arith, all.0), weaker ns all.1)

-- so they are in one more, with a slot in it
pub filled-split : (ns : List ℕ) (i k : ℕ) → AreFilled ns → i < length ns → get_or ns i 0 ≡ 256 → AreFilled (set (halved ns i) k 129)
filled-split ns i k filled lt full =
    let half = all-set (λ n. 128 ≤ n) (halved ns i) k 129 (all-insert (λ n. 128 ≤ n) (set ns i 128) (i + 1) 128 (all-set (λ n. 128 ≤ n) ns i 128 (all_half ns i filled lt full) (omega arith)) (omega arith)) (omega arith) in
    record {
      some = weaker (set (halved ns i) k 129) half;
      most = all-set (λ n. n ≤ 256) (halved ns i) k 129 (all-insert (λ n. n ≤ 256) (set ns i 128) (i + 1) 128 (all-set (λ n. n ≤ 256) ns i 128 filled.most (omega arith)) (omega arith)) (omega arith);
      half = λ _. half;
    }

set-length : (ns : List ℕ) (i x : ℕ) → length (set ns i x) ≡ length ns
set-length [] i x = refl
set-length (n ∷ ns) zero x = refl
set-length (n ∷ ns) (suc i) x = ap suc (set-length ns i x)

-- a slot in one that isn't full
pub filled-more : (ns : List ℕ) (i : ℕ) → AreFilled ns → i < length ns → get_or ns i 0 < 256 → AreFilled (set ns i (get_or ns i 0 + 1))
filled-more ns i filled lt less = record {
  some = all-set (λ n. 1 ≤ n) ns i (get_or ns i 0 + 1) filled.some (omega arith);
  most = all-set (λ n. n ≤ 256) ns i (get_or ns i 0 + 1) filled.most (omega (arith, less));
  half = λ more. let many : 1 < length ns = omega (arith, more, set-length ns i (get_or ns i 0 + 1)) in
      let here : 128 ≤ get_or ns i 0 = all-at (λ n. 128 ≤ n) ns i lt (filled.half many) in
      all-set (λ n. 128 ≤ n) ns i (get_or ns i 0 + 1) (filled.half many) (omega (arith, here));
}

half_full : (ns : List ℕ) → AllByRecursion (λ n. 128 ≤ n) ns → 128 * length ns ≤ sum_of ns
half_full [] all = omega arith
half_full (n ∷ ns) all = let more = half_full ns all.1 in let here : 128 ≤ n = all.0 in rw (mul-suc 128 (length ns)) (omega arith)

-- where one of them is full, one more would have been half full
pub spare_left : (ns : List ℕ) (i spares : ℕ) → AreFilled ns → i < length ns → get_or ns i 0 ≡ 256 → sum_of ns < 128 * (length ns + spares) → 0 < spares
spare_left ns i spares filled lt full less = let more = go ns i (all_half ns i filled lt full) lt full in omega (arith, more, less)
  where
    go : (ns : List ℕ) (i : ℕ) → AllByRecursion (λ n. 128 ≤ n) ns → i < length ns → get_or ns i 0 ≡ 256 → 128 * length ns + 128 ≤ sum_of ns
    go [] i all lt full = absurd (omega arith)
    go (n ∷ ns) zero all lt full = let more = half_full ns all.1 in rw (mul-suc 128 (length ns)) (omega (arith, more, full))
    go (n ∷ ns) (suc i) all lt full = let more = go ns i all.1 (omega arith) full in let here : 128 ≤ n = all.0 in rw (mul-suc 128 (length ns)) (omega (arith, more, here))

pub filled-one : AreFilled (1 ∷ [])
filled-one = record { some = (omega arith, tt); most = (omega arith, tt); half = λ many. absurd (omega arith) }
