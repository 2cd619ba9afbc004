-- A binary search over first keys in order finds how many of them stand in front.
use Rattle.std.proofs.Common.{◌≡◌, ℕ, zero, suc, ◌-◌, ◌<◌, ◌≤◌, List, [], ◌∷◌, length, refl, sym, arith, Bool, true, false, not, get_or}
use Rattle.std.specs.List.{list_all, prefix_len}
use Rattle.std.specs.Ordering.{is_lt, is_gt}
use Rattle.std.proofs.lemmas.Bool.{true_from_ne_false}
use Rattle.std.proofs.lemmas.Cmp.{upto}
use Rattle.std.proofs.lemmas.List.Sums.{prefix_len_is}
use Rattle.mr_base.specs.declared.stop.Direction.{Direction}
use Rattle.mr_iter.specs.Versions.{key_cmp}
use Rattle.mr_iter.specs.Order.{key_total, not_before}
use Rattle.mr_iter.specs.Places.{and_split}
use Rattle.mr_run_file.specs.Reading.{Indexed}
use Rattle.mr_run_open.specs.Runs.{is_before, is_upto, are_in_order, no_block}

pub not_false : (b : Bool) → not b ≡ true → b ≡ false
not_false true e = cc
not_false false e = refl

pub not_true : (b : Bool) → not b ≡ false → b ≡ true
not_true true e = refl
not_true false e = cc

pub each_true : (p : Indexed → Bool) (bs : List Indexed) (n : ℕ) → list_all p bs ≡ true → n < length bs → p (get_or bs n no_block) ≡ true
each_true p [] n all lt = absurd (omega (arith, lt))
each_true p (b ∷ bs) zero all lt = (and_split (p b) (list_all p bs) all).0
each_true p (b ∷ bs) (suc n) all lt = each_true p bs n (and_split (p b) (list_all p bs) all).1 (omega (arith, lt))

-- a test that passes with a block passes with those in front of it
abbrev pub GoesDown : Direction → (Indexed → Bool) → Type 0
GoesDown d p = (b c : Indexed) → is_upto d c.key b ≡ true → p c ≡ true → p b ≡ true

pub before_down : (d : Direction) (key : List ℕ) → GoesDown d (is_before d key)
before_down d key b c upto_c before = true_from_ne_false _ (λ late. let no : is_lt (key_cmp d c.key key) ≡ false = not_before (key_cmp d) (key_total d) b.key c.key key (not_false _ upto_c) late in cc)

pub upto_down : (d : Direction) (key : List ℕ) → GoesDown d (is_upto d key)
upto_down d key b c upto_c upto_key = let e : is_gt (key_cmp d b.key key) ≡ false = upto (key_total d) b.key c.key key (not_false _ upto_c) (not_false _ upto_key) in rw e

pub downward : (d : Direction) (p : Indexed → Bool) → GoesDown d p → (bs : List Indexed) (k n : ℕ) → are_in_order d bs ≡ true → k ≤ n → n < length bs → p (get_or bs n no_block) ≡ true → p (get_or bs k no_block) ≡ true
downward d p law [] k n order le lt here = absurd (omega (arith, lt))
downward d p law (b ∷ bs) zero zero order le lt here = here
downward d p law (b ∷ bs) zero (suc n) order le lt here =
    let parts = and_split (list_all (λ c. is_upto d c.key b) bs) (are_in_order d bs) order in
    law b (get_or bs n no_block) (each_true (λ c. is_upto d c.key b) bs n parts.0 (omega (arith, lt))) here
downward d p law (b ∷ bs) (suc k) zero order le lt here = absurd (omega (arith, le))
downward d p law (b ∷ bs) (suc k) (suc n) order le lt here =
    downward d p law bs k n (and_split (list_all (λ c. is_upto d c.key b) bs) (are_in_order d bs) order).1 (omega (arith, le)) (omega (arith, lt)) here

-- those in front pass, and the next one doesn't
pub counted : (d : Direction) (p : Indexed → Bool) (bs : List Indexed) (n : ℕ) → GoesDown d p → are_in_order d bs ≡ true → n ≤ length bs → (0 < n → p (get_or bs (n - 1) no_block) ≡ true) → (n < length bs → p (get_or bs n no_block) ≡ false) → n ≡ prefix_len p bs
counted d p bs n law order le before behind = sym (prefix_len_is p bs n no_block le (λ k lt. downward d p law bs k (n - 1) order (omega (arith, lt)) (omega (arith, lt, le)) (before (omega (arith, lt)))) behind)
