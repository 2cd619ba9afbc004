-- The runs of a family with one more.
use Rattle.std.proofs.Common.{◌≡◌, ℕ, List, [], ◌∷◌, length, zero, suc, refl, sym, ◌∙◌, ap, subst, inl, inr}
use Rattle.std.specs.List.{AllByRecursion}
use Rattle.std.specs.Cmp.{IsTotalOrder}
use Rattle.std.specs.declared.cmp.Ordering.{Ordering}
use Rattle.std.specs.Ordering.{is_gt}
use Rattle.std.proofs.lemmas.Bool.{cases_Bool}
use Rattle.std.proofs.lemmas.Cmp.{nat_cmp_total, on_total, back_total}
use Rattle.mr_base.specs.declared.stop.Direction.{Direction}
use Rattle.mr_iter.specs.declared.run.RunInfo.{RunInfo}
use Rattle.mr_iter.specs.Versions.{place_in, IsInOrder}
use Rattle.mr_iter.specs.Order.{key_total, IsInOrder-place_in}
use Rattle.mr_run_open.specs.Runs.{RunState, opened}
use Rattle.mr_levels.specs.Levels.{LevelsState, newer_first, by_last_key, changed_at, with_run, AreOfDirection, AreKept}
use Rattle.mr_levels.proofs.Finding.{as_levels}

each_placed : {X : Type 0} (P : X → Type 0) (cmp : X → X → Ordering) (x : X) (xs : List X) → P x → AllByRecursion P xs → AllByRecursion P (place_in cmp x xs)
each_placed P cmp x [] here all = (here, tt)
each_placed P cmp x (y ∷ ys) here all = elim (cases_Bool (is_gt (cmp x y))) [
  | inl more ↦ rw more (all.0, each_placed P cmp x ys here all.1)
  | inr other ↦ rw other (here, all)
]

each_changed : (P : List RunState → Type 0) (i : ℕ) (f : List RunState → List RunState) (rss : List (List RunState)) → ((rs : List RunState) → P rs → P (f rs)) → AllByRecursion P rss → AllByRecursion P (changed_at i f rss)
each_changed P i f [] law all = tt
each_changed P zero f (rs ∷ rss) law all = (law rs all.0, all.1)
each_changed P (suc i) f (rs ∷ rss) law all = (all.0, each_changed P i f rss law all.1)

as_many : (i : ℕ) (f : List RunState → List RunState) (rss : List (List RunState)) → length (changed_at i f rss) ≡ length rss
as_many i f [] = refl
as_many zero f (rs ∷ rss) = refl
as_many (suc i) f (rs ∷ rss) = ap (λ (n : ℕ). suc n) (as_many i f rss)

newer_total : IsTotalOrder newer_first
newer_total = on_total (λ (r : RunState). r.file) (back_total nat_cmp_total)

last_total : (d : Direction) → IsTotalOrder (by_last_key d)
last_total d = on_total (λ (r : RunState). r.index.last) (key_total d)

direction_of : (info : RunInfo) (d : Direction) (r : RunState) → r ≡ opened info d r.index → r.direction ≡ d
direction_of info d r e = ap (λ (x : RunState). x.direction) e

module _ (info : RunInfo) (d : Direction) (r : RunState) (is : r ≡ opened info d r.index) (ns : List RunState) (rss : List (List RunState)) (s : LevelsState) (view : as_levels d ns rss ≡ s) where
  pub kept_newest : (ms : List RunState) → ms ≡ place_in newer_first r ns → AreKept d ns rss → AreKept d ms rss
  kept_newest ms e kept = subst (λ (xs : List RunState). AreKept d xs rss) (sym e) (record {
    one = each_placed (λ (x : RunState). x.direction ≡ d) newer_first r ns (direction_of info d r is) kept.one;
    one_deeper = kept.one_deeper;
    newer = IsInOrder-place_in newer_first newer_total r ns kept.newer;
    ordered = kept.ordered;
    four = kept.four;
  })

  pub kept_deeper : (i : ℕ) (qss : List (List RunState)) → qss ≡ changed_at i (place_in (by_last_key d) r) rss → AreKept d ns rss → AreKept d ns qss
  kept_deeper i qss e kept = subst (λ (xss : List (List RunState)). AreKept d ns xss) (sym e) (record {
    one = kept.one;
    one_deeper = each_changed (AreOfDirection d) i (place_in (by_last_key d) r) rss (λ rs all. each_placed (λ (x : RunState). x.direction ≡ d) (by_last_key d) r rs (direction_of info d r is) all) kept.one_deeper;
    newer = kept.newer;
    ordered = each_changed (IsInOrder (by_last_key d)) i (place_in (by_last_key d) r) rss (λ rs all. IsInOrder-place_in (by_last_key d) (last_total d) r rs all) kept.ordered;
    four = as_many i (place_in (by_last_key d) r) rss ∙ kept.four;
  })

  pub added_newest : (level : ℕ) (ms : List RunState) → level ≡ 0 → ms ≡ place_in newer_first r ns → as_levels d ms rss ≡ with_run level (opened info s.direction r.index) s
  added_newest level ms e0 e = subst (λ (x : LevelsState). as_levels d ms rss ≡ with_run level (opened info x.direction r.index) x) view
      (subst (λ (l : ℕ). as_levels d ms rss ≡ with_run l (opened info d r.index) (as_levels d ns rss)) (sym e0) (ap (λ (xs : List RunState). as_levels d xs rss) (e ∙ ap (λ (x : RunState). place_in newer_first x ns) is)))

  pub added_deeper : (level i : ℕ) (qss : List (List RunState)) → level ≡ suc i → qss ≡ changed_at i (place_in (by_last_key d) r) rss → as_levels d ns qss ≡ with_run level (opened info s.direction r.index) s
  added_deeper level i qss e1 e = subst (λ (x : LevelsState). as_levels d ns qss ≡ with_run level (opened info x.direction r.index) x) view
      (subst (λ (l : ℕ). as_levels d ns qss ≡ with_run l (opened info d r.index) (as_levels d ns rss)) (sym e1) (ap (λ (xss : List (List RunState)). as_levels d ns xss) (e ∙ ap (λ (x : RunState). changed_at i (place_in (by_last_key d) x) rss) is)))
