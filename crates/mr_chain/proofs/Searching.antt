-- A binary search over last keys in order finds how many of them come before a key.
use Rattle.std.proofs.Common.{◌≡◌, ℕ, zero, suc, ◌-◌, ◌<◌, ◌≤◌, List, [], ◌∷◌, length, refl, sym, ◌∙◌, inl, inr, arith, Bool, true, false, not, get_or}
use Rattle.std.specs.List.{list_all, prefix_len}
use Rattle.std.specs.Ordering.{is_lt, is_gt}
use Rattle.std.proofs.lemmas.Bool.{true_from_ne_false, cases_Bool}
use Rattle.std.proofs.lemmas.List.Sums.{prefix_len_is}
use Rattle.mr_base.specs.declared.stop.Direction.{Direction}
use Rattle.mr_iter.specs.Versions.{key_cmp}
use Rattle.mr_iter.specs.Order.{key_total, not_before}
use Rattle.mr_iter.specs.Places.{and_split}
use Rattle.mr_chain.specs.Chains.{child_of, comes_before, ascend}

not_false : (b : Bool) → not b ≡ true → b ≡ false
not_false true e = cc
not_false false e = refl

each_true : (p : List ℕ → Bool) (ls : List (List ℕ)) (n : ℕ) → list_all p ls ≡ true → n < length ls → p (get_or ls n []) ≡ true
each_true p [] n all lt = absurd (omega (arith, lt))
each_true p (l ∷ ls) zero all lt = (and_split (p l) (list_all p ls) all).0
each_true p (l ∷ ls) (suc n) all lt = each_true p ls n (and_split (p l) (list_all p ls) all).1 (omega (arith, lt))

-- a last key in front of one that comes before the key comes before it too
before_down : (d : Direction) (key k l : List ℕ) → not (is_gt (key_cmp d k l)) ≡ true → comes_before d key l ≡ true → comes_before d key k ≡ true
before_down d key k l upto before = true_from_ne_false _ (λ late. let no : is_lt (key_cmp d l key) ≡ false = not_before (key_cmp d) (key_total d) k l key (not_false _ upto) late in cc)

downward : (d : Direction) (key : List ℕ) (ls : List (List ℕ)) (k n : ℕ) → ascend d ls ≡ true → k ≤ n → n < length ls → comes_before d key (get_or ls n []) ≡ true → comes_before d key (get_or ls k []) ≡ true
downward d key [] k n order le lt here = absurd (omega (arith, lt))
downward d key (l ∷ ls) zero zero order le lt here = here
downward d key (l ∷ ls) zero (suc n) order le lt here =
    let parts = and_split (list_all (λ k. not (is_gt (key_cmp d l k))) ls) (ascend d ls) order in
    before_down d key l (get_or ls n []) (each_true (λ k. not (is_gt (key_cmp d l k))) ls n parts.0 (omega (arith, lt))) here
downward d key (l ∷ ls) (suc k) zero order le lt here = absurd (omega (arith, le))
downward d key (l ∷ ls) (suc k) (suc n) order le lt here =
    downward d key ls k n (and_split (list_all (λ k. not (is_gt (key_cmp d l k))) ls) (ascend d ls) order).1 (omega (arith, le)) (omega (arith, lt)) here

child_is : (d : Direction) (key : List ℕ) (ls : List (List ℕ)) → prefix_len (comes_before d key) ls ≡ child_of d ls key
child_is d key [] = refl
child_is d key (l ∷ ls) = elim (cases_Bool (is_lt (key_cmp d l key))) [
  | inl low ↦ rw low (let e = child_is d key ls in omega (arith, e))
  | inr up ↦ rw up refl
]

-- those in front come before the key, and the next one doesn't
pub counted : (d : Direction) (key : List ℕ) (ls : List (List ℕ)) (n : ℕ) → ascend d ls ≡ true → n ≤ length ls → (0 < n → comes_before d key (get_or ls (n - 1) []) ≡ true) → (n < length ls → comes_before d key (get_or ls n []) ≡ false) → n ≡ child_of d ls key
counted d key ls n order le before behind = sym (prefix_len_is (comes_before d key) ls n [] le (λ k lt. downward d key ls k (n - 1) order (omega (arith, lt)) (omega (arith, lt, le)) (before (omega (arith, lt)))) behind) ∙ child_is d key ls
