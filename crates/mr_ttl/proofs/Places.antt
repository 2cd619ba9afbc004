-- What a binary search finds among rising numbers.
use Rattle.std.proofs.Common.{◌≡◌, ℕ, zero, suc, ◌<◌, ◌≤◌, ◌≢◌, true, false, List, [], ◌∷◌, length, get_or, Some, None, Result, Ok, Err, is_ok, MatchResult, refl, sym, ap, arith}
use Rattle.std.specs.List.Sorted.{IsSearchInRange, IsBinarySearchResult, IsNonDecreasingBy}
use Rattle.std.specs.Ordering.{nat_cmp, ordering_index}
use Rattle.std.proofs.lemmas.Cmp.{ranked}
use Rattle.std.proofs.lemmas.List.Sorted.{IsNonDecreasingBy-from_default, searched}
use Rattle.std.proofs.lemmas.Bool.Decides.{nat_tests}
use Rattle.mr_ttl.specs.declared.duration.Duration.{Duration}
use Rattle.mr_ttl.specs.Durations.{seconds_of, index_at, HaveRisingIndexes, DontFall}
use Rattle.mr_ttl.specs.Filters.{is_dropped}

zero_duration : Duration
zero_duration = record { index = 0; seconds = 0 }

absent : (ds : List Duration) (k : ℕ) → ((j : ℕ) → j < length ds → index_at ds j ≢ k) → seconds_of ds k ≡ None
absent [] k none = refl
absent (d ∷ ds) k none = grind (arith, nat_tests, none 0 (omega arith), absent ds k (λ j lt. none (suc j) (omega (arith, lt))))

present : (ds : List Duration) (k i : ℕ) → i < length ds → index_at ds i ≡ k → ((j : ℕ) → j < i → index_at ds j ≢ k) → seconds_of ds k ≡ Some (get_or ds i (record { index = 0; seconds = 0 })).seconds
present [] k i lt here none = absurd (omega (arith, lt))
present (d ∷ ds) k zero lt here none = grind (arith, nat_tests, here)
present (d ∷ ds) k (suc i) lt here none = grind (arith, nat_tests, none 0 (omega arith), present ds k i (omega (arith, lt)) here (λ j l. none (suc j) (omega (arith, l))))

comparisons_rise : (ds : List Duration) → HaveRisingIndexes ds → (k : ℕ) → IsNonDecreasingBy (λ d. ordering_index (nat_cmp d.index k)) ds
comparisons_rise ds rising k = IsNonDecreasingBy-from_default (λ d. ordering_index (nat_cmp d.index k)) ds (record { index = 0; seconds = 0 }) (λ i j le lt.
    let rise : index_at ds i ≤ index_at ds j = grind (arith, rising i j, λ (same : i ≡ j). ap (index_at ds) same) in
    grind (arith, nat_tests))

abbrev pub Found : List Duration → ℕ → Result ℕ ℕ → Type 0
Found ds k r = MatchResult r (λ i. (i < length ds) × (seconds_of ds k ≡ Some (get_or ds i (record { index = 0; seconds = 0 })).seconds)) (λ i. seconds_of ds k ≡ None)

-- a binary search by the index ends at the duration of that index, or there is none
pub found : (ds : List Duration) → HaveRisingIndexes ds → (k : ℕ) (r : Result ℕ ℕ) → IsSearchInRange r (length ds) → IsBinarySearchResult (λ d. nat_cmp d.index k) ds r → Found ds k r
found ds rising k (Ok i) lt equal =
    let here : index_at ds i ≡ k = ranked _ k _ (sym (equal (record { index = 0; seconds = 0 }))) in
    (lt, present ds k i lt here (λ j l same. omega (arith, rising j i l lt, here, same)))
found ds rising k (Err i) le parted = absent ds k none
  where
    none : (j : ℕ) → j < length ds → index_at ds j ≢ k
    none j lt same = grind (arith, below j, above j lt)
      where
        below : (j : ℕ) → j < i → index_at ds j < k
        below j l = ranked _ k _ (sym ((parted (comparisons_rise ds rising k)).0 j (record { index = 0; seconds = 0 }) (omega arith) l))

        above : (j : ℕ) → j < length ds → i ≤ j → k < index_at ds j
        above j lt l = ranked _ k _ (sym ((parted (comparisons_rise ds rising k)).1 j (record { index = 0; seconds = 0 }) l lt))

among : (ns : List ℕ) (k i : ℕ) → i < length ns → get_or ns i 0 ≡ k → is_dropped ns k ≡ true
among [] k i lt here = absurd (omega (arith, lt))
among (n ∷ ns) k zero lt here = grind (arith, nat_tests, here)
among (n ∷ ns) k (suc i) lt here = grind (arith, nat_tests, among ns k i (omega (arith, lt)) here)

not_among : (ns : List ℕ) (k : ℕ) → ((j : ℕ) → j < length ns → get_or ns j 0 ≢ k) → is_dropped ns k ≡ false
not_among [] k none = refl
not_among (n ∷ ns) k none = grind (arith, nat_tests, none 0 (omega arith), not_among ns k (λ j lt. none (suc j) (omega (arith, lt))))

-- a binary search tells whether the number is there
pub told : (ns : List ℕ) → DontFall ns → (k : ℕ) (r : Result ℕ ℕ) → IsBinarySearchResult (λ n. nat_cmp n k) ns r → is_ok r ≡ is_dropped ns k
told ns order k (Ok i) h = let s = searched ns k (Ok i) h order in sym (among ns k i s.0 s.1)
told ns order k (Err i) h = let s = searched ns k (Err i) h order in sym (not_among ns k (λ j lt same. grind (arith, s.1 j, s.2 j)))
