-- What holds of all runs and of one more holds of them together.
use Rattle.std.proofs.Common.{ℕ, List, [], ◌∷◌, zero, suc, inl, inr}
use Rattle.std.specs.List.{AllByRecursion}
use Rattle.std.specs.declared.cmp.Ordering.{Ordering}
use Rattle.std.specs.Ordering.{is_gt}
use Rattle.std.proofs.lemmas.Bool.{cases_Bool}
use Rattle.mr_iter.specs.Versions.{place_in, joined}
use Rattle.mr_iter.specs.Order.{each-append}
use Rattle.mr_iter.specs.MergeFiles.{each_split}
use Rattle.mr_run_open.specs.Runs.{RunState}
use Rattle.mr_levels.specs.Levels.{LevelsState, runs, newer_first, by_last_key, changed_at, with_run}

pub each_placed : {X : Type 0} (P : X → Type 0) (cmp : X → X → Ordering) (x : X) (xs : List X) → P x → AllByRecursion P xs → AllByRecursion P (place_in cmp x xs)
each_placed P cmp x [] here all = (here, tt)
each_placed P cmp x (y ∷ ys) here all = elim (cases_Bool (is_gt (cmp x y))) [
  | inl more ↦ rw more (all.0, each_placed P cmp x ys here all.1)
  | inr other ↦ rw other (here, all)
]

module _ (P : RunState → Type 0) (r : RunState) (here : P r) where
  each_changed : (i : ℕ) (cmp : RunState → RunState → Ordering) (rss : List (List RunState)) → AllByRecursion P (joined rss) → AllByRecursion P (joined (changed_at i (place_in cmp r) rss))
  each_changed i cmp [] all = tt
  each_changed zero cmp (rs ∷ rss) all = let parts = each_split P rs (joined rss) all in each-append P (place_in cmp r rs) (joined rss) (each_placed P cmp r rs here parts.0) parts.1
  each_changed (suc i) cmp (rs ∷ rss) all = let parts = each_split P rs (joined rss) all in each-append P rs (joined (changed_at i (place_in cmp r) rss)) parts.0 (each_changed i cmp rss parts.1)

  pub each_with : (level : ℕ) (s : LevelsState) → AllByRecursion P (runs s) → AllByRecursion P (runs (with_run level r s))
  each_with zero s all = let parts = each_split P s.newest (joined s.deeper) all in each-append P (place_in newer_first r s.newest) (joined s.deeper) (each_placed P newer_first r s.newest here parts.0) parts.1
  each_with (suc level) s all = let parts = each_split P s.newest (joined s.deeper) all in each-append P s.newest (joined (changed_at level (place_in (by_last_key s.direction) r) s.deeper)) parts.0 (each_changed level (by_last_key s.direction) s.deeper parts.1)
