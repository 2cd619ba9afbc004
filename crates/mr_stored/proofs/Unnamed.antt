-- Families without a record: no run and no operation is of them, so that they have no version.
use Rattle.std.proofs.Common.{◌≡◌, ◌==◌, ◌||◌, ℕ, Bool, true, false, if◌then◌else◌, nat_lt, List, [], ◌∷◌, ◌++◌, refl, sym, ◌∙◌, ap, subst, inl, inr, arith}
use Rattle.std.specs.List.{AllByRecursion}
use Rattle.std.proofs.lemmas.Bool.{cases_Bool}
use Rattle.std.proofs.lemmas.Bool.Decides.{nat_tests}
use Rattle.mr_base.specs.Disk.{Image}
use Rattle.mr_base.specs.declared.stop.Direction.{Direction}
use Rattle.mr_wal.specs.declared.operation.Operation.{Operation}
use Rattle.mr_iter.specs.Versions.{Version, version_cmp, merged}
use Rattle.mr_levels.specs.Levels.{LevelsState, no_runs, run_lists, runs as runs_by_level}
use Rattle.mr_manifest.specs.declared.live.LiveRun.{LiveRun}
use Rattle.mr_engine_log.specs.declared.batched.Batched.{Batched}
use Rattle.mr_stored.specs.Names.{is_named}
use Rattle.mr_stored.specs.Lists.{runs_of, with_runs, levels_of, with_batches, list_of, versions_of, direction_of, system_of, AreNamed, OperationsAreNamed}
use Rattle.mr_stored.proofs.Batching.{none_of, batches_of_none}

same_number : (m n : ℕ) → (m == n) ≡ true → m ≡ n
same_number m n e = grind (arith, nat_tests)

module _ (system : List Version) (family : ℕ) (unnamed : is_named system family ≡ false) where
  other_than : (m : ℕ) → is_named system m ≡ true → (m == family) ≡ false
  other_than m named = elim (cases_Bool (m == family)) [
    | inl same ↦ absurd (Rattle.std.proofs.Common.true≢false (sym named ∙ ap (is_named system) (same_number m family same) ∙ unnamed))
    | inr other ↦ other
  ]

  pub no_runs_of : (runs : List LiveRun) → AllByRecursion (λ (run : LiveRun). is_named system run.family ≡ true) runs → runs_of family runs ≡ []
  no_runs_of [] all = refl
  no_runs_of (run ∷ runs) all = rw (other_than run.family all.0) (no_runs_of runs all.1)

  no_operations_of : (os : List Operation) → OperationsAreNamed system os → none_of family os
  no_operations_of [] all = tt
  no_operations_of (o ∷ os) all = (other_than o.family all.0, no_operations_of os all.1)

  pub no_batches_of : (bs : List Batched) → AllByRecursion (λ (b : Batched). OperationsAreNamed system b.operations) bs → AllByRecursion (λ (b : Batched). none_of family b.operations) bs
  no_batches_of [] all = tt
  no_batches_of (b ∷ bs) all = (no_operations_of b.operations all.0, no_batches_of bs all.1)

module _ (image : Image) (runs : List LiveRun) (batches : List Batched) (named : AreNamed image runs batches) (family : ℕ) (unnamed : is_named (system_of image runs batches) family ≡ false) where
  pub no_levels : (d : Direction) → levels_of d family image runs ≡ no_runs d
  no_levels d = ap (λ (rs : List LiveRun). with_runs d image rs (no_runs d)) (no_runs_of (system_of image runs batches) family unnamed runs named.of_runs)

  pub no_batches : (d : Direction) (vs : List Version) → with_batches d family batches vs ≡ vs
  no_batches d vs = batches_of_none d family batches vs (no_batches_of (system_of image runs batches) family unnamed batches named.of_operations)

  pub no_list : (d : Direction) → list_of d family image runs batches ≡ []
  no_list d =
      no_batches d (merged (version_cmp d) (run_lists (runs_by_level (levels_of d family image runs)) image))
      ∙ ap (λ (s : LevelsState). merged (version_cmp d) (run_lists (runs_by_level s) image)) (no_levels d)

  pub no_versions : versions_of image runs batches family ≡ []
  no_versions = no_list (direction_of image runs batches family)
