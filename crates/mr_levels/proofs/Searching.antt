-- Where a run is put, and a binary search over last keys.
use Rattle.std.proofs.Common.{◌≡◌, ℕ, ◌+◌, ◌-◌, ◌<◌, ◌≤◌, Bool, true, false, List, [], ◌∷◌, length, get_or, zero, suc, refl, sym, ◌∙◌, ap, inl, inr, arith}
use Rattle.std.specs.List.{AllByRecursion, prefix_len, insert}
use Rattle.std.specs.declared.cmp.Ordering.{Ordering}
use Rattle.std.specs.Ordering.{is_gt}
use Rattle.std.proofs.lemmas.Bool.{cases_Bool, true_from_ne_false}
use Rattle.std.proofs.lemmas.List.Sums.{prefix_len_is}
use Rattle.mr_base.specs.declared.stop.Direction.{Direction}
use Rattle.mr_iter.specs.Versions.{key_cmp, place_in, IsInOrder}
use Rattle.mr_iter.specs.Order.{key_total, not_before}
use Rattle.mr_run_open.specs.Runs.{RunState}
use Rattle.mr_levels.specs.Levels.{by_last_key, no_run}
use Rattle.mr_levels.specs.Looks.{ends_before}
use Rattle.mr_levels.proofs.Skipping.{lt_gt, not_lt_upto}

-- in front of the first that isn't less is at the number of those that are
pub placed_at : {X : Type 0} (cmp : X → X → Ordering) (x : X) (xs : List X) → insert xs (prefix_len (λ y. is_gt (cmp x y)) xs) x ≡ place_in cmp x xs
placed_at cmp x [] = refl
placed_at {X = X} cmp x (y ∷ ys) = elim (cases_Bool (is_gt (cmp x y))) [
  | inl more ↦ rw more (one_more (prefix_len (λ y. is_gt (cmp x y)) ys) ∙ ap (λ (zs : List X). y ∷ zs) (placed_at cmp x ys))
  | inr other ↦ rw other refl
]
  where
    one_more : (n : ℕ) → insert (y ∷ ys) (1 + n) x ≡ y ∷ insert ys n x
    one_more n = let e : 1 + n ≡ suc n = omega arith in ap (λ (k : ℕ). insert (y ∷ ys) k x) e

same_test : (d : Direction) (x y : RunState) → ends_before d x.index.last y ≡ is_gt (by_last_key d x y)
same_test d x y = elim (cases_Bool (ends_before d x.index.last y)) [
  | inl before ↦ before ∙ sym (lt_gt d y.index.last x.index.last before)
  | inr other ↦ other ∙ sym (not_lt_upto d x.index.last y.index.last other)
]

prefix_same : {X : Type 0} (p q : X → Bool) → ((x : X) → p x ≡ q x) → (xs : List X) → prefix_len p xs ≡ prefix_len q xs
prefix_same p q law [] = refl
prefix_same p q law (x ∷ xs) = elim (cases_Bool (q x)) [
  | inl yes_x ↦ rw (law x ∙ yes_x, yes_x) (ap (λ (n : ℕ). 1 + n) (prefix_same p q law xs))
  | inr no_x ↦ rw (law x ∙ no_x, no_x) refl
]

pub placed_before : (d : Direction) (r : RunState) (rs : List RunState) → insert rs (prefix_len (ends_before d r.index.last) rs) r ≡ place_in (by_last_key d) r rs
placed_before d r rs = ap (λ (n : ℕ). insert rs n r) (prefix_same (ends_before d r.index.last) (λ (y : RunState). is_gt (by_last_key d r y)) (same_test d r) rs) ∙ placed_at (by_last_key d) r rs

-- ---- a binary search

each_at : (P : RunState → Type 0) (rs : List RunState) (n : ℕ) → AllByRecursion P rs → n < length rs → P (get_or rs n no_run)
each_at P [] n all lt = absurd (omega (arith, lt))
each_at P (r ∷ rs) zero all lt = all.0
each_at P (r ∷ rs) (suc n) all lt = each_at P rs n all.1 (omega (arith, lt))

-- where a run ends before a key, those in front of it do
before_down : (d : Direction) (key : List ℕ) (r t : RunState) → is_gt (by_last_key d r t) ≡ false → ends_before d key t ≡ true → ends_before d key r ≡ true
before_down d key r t upto before = true_from_ne_false _ (λ late. let no : ends_before d key t ≡ false = not_before (key_cmp d) (key_total d) r.index.last t.index.last key upto late in cc)

downward : (d : Direction) (key : List ℕ) (rs : List RunState) (k n : ℕ) → IsInOrder (by_last_key d) rs → k ≤ n → n < length rs → ends_before d key (get_or rs n no_run) ≡ true → ends_before d key (get_or rs k no_run) ≡ true
downward d key [] k n order le lt here = absurd (omega (arith, lt))
downward d key (r ∷ rs) zero zero order le lt here = here
downward d key (r ∷ rs) zero (suc n) order le lt here = before_down d key r (get_or rs n no_run) (each_at (λ (t : RunState). is_gt (by_last_key d r t) ≡ false) rs n order.0 (omega (arith, lt))) here
downward d key (r ∷ rs) (suc k) zero order le lt here = absurd (omega (arith, le))
downward d key (r ∷ rs) (suc k) (suc n) order le lt here = downward d key rs k n order.1 (omega (arith, le)) (omega (arith, lt)) here

pub counted : (d : Direction) (key : List ℕ) (rs : List RunState) (n : ℕ) → IsInOrder (by_last_key d) rs → n ≤ length rs → (0 < n → ends_before d key (get_or rs (n - 1) no_run) ≡ true) → (n < length rs → ends_before d key (get_or rs n no_run) ≡ false) → n ≡ prefix_len (ends_before d key) rs
counted d key rs n order le before behind = sym (prefix_len_is (ends_before d key) rs n no_run le (λ k lt. downward d key rs k (n - 1) order (omega (arith, lt)) (omega (arith, lt, le)) (before (omega (arith, lt)))) behind)
