-- What a binary search finds among families by their numbers.
use Rattle.std.proofs.Common.{◌≡◌, ℕ, ◌<◌, ◌≤◌, List, length, Result, Ok, Err, IfOk, IfErr, sym, ap, arith}
use Rattle.std.specs.List.Sorted.{IsSearchInRange, IsBinarySearchResult, IsNonDecreasingBy}
use Rattle.std.specs.Ordering.{nat_cmp, ordering_index}
use Rattle.std.proofs.lemmas.Cmp.{ranked}
use Rattle.std.proofs.lemmas.List.Sorted.{IsNonDecreasingBy-from_default}
use Rattle.std.proofs.lemmas.Bool.Decides.{nat_tests}
use Rattle.mr_families.specs.declared.numbered.Numbered.{Numbered}
use Rattle.mr_families.specs.Known.{no_one, AreAscending, IsAt, IsGapFor}
use Rattle.mr_families.proofs.Numbering.{number_at}

comparisons_rise : (ns : List Numbered) → AreAscending ns → (k : ℕ) → IsNonDecreasingBy (λ n. ordering_index (nat_cmp n.number k)) ns
comparisons_rise ns rising k = IsNonDecreasingBy-from_default (λ n. ordering_index (nat_cmp n.number k)) ns no_one (λ i j le lt.
    let rise : number_at ns i ≤ number_at ns j = grind (arith, rising i j, λ (same : i ≡ j). ap (number_at ns) same) in
    grind (arith, nat_tests))

pub found_at : (ns : List Numbered) → AreAscending ns → (k : ℕ) (r : Result ℕ ℕ) → IsSearchInRange r (length ns) → IsBinarySearchResult (λ n. nat_cmp n.number k) ns r → IfOk r (IsAt ns k)
found_at ns rising k (Ok i) lt equal = record { in_range = lt; has_number = ranked _ k _ (sym (equal no_one)) }
found_at ns rising k (Err i) le parted = tt

pub found_gap : (ns : List Numbered) → AreAscending ns → (k : ℕ) (r : Result ℕ ℕ) → IsSearchInRange r (length ns) → IsBinarySearchResult (λ n. nat_cmp n.number k) ns r → IfErr r (IsGapFor ns k)
found_gap ns rising k (Ok i) lt equal = tt
found_gap ns rising k (Err i) le parted = record { in_range = le; smaller_before = below; greater_after = above }
  where
    below : (j : ℕ) → j < i → number_at ns j < k
    below j l = ranked _ k _ (sym ((parted (comparisons_rise ns rising k)).0 j no_one (omega (arith, l, le)) l))

    above : (j : ℕ) → i ≤ j → j < length ns → k < number_at ns j
    above j l lt = ranked _ k _ (sym ((parted (comparisons_rise ns rising k)).1 j no_one l lt))
