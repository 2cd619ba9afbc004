-- The versions of each family, and what is judged of its runs, stay where the files of the runs do.
use Rattle.std.proofs.Common.{◌≡◌, ◌&&◌, ◌||◌, ◌==◌, not, nat_lt, ℕ, Bool, true, if◌then◌else◌, zero, suc, List, [], ◌∷◌, ◌++◌, map, Option, Result, Ok, Err, refl, sym, ◌∙◌, ap, subst, inl, inr}
use Rattle.std.specs.List.{AllByRecursion}
use Rattle.std.specs.Cmp.{IsTotalOrder}
use Rattle.std.proofs.lemmas.Bool.{cases_Bool}
use Rattle.std.proofs.lemmas.Cmp.{on_total, then_total, nat_cmp_total}
use Rattle.mr_base.specs.Disk.{Image}
use Rattle.mr_base.specs.declared.stop.Direction.{Direction}
use Rattle.mr_base.specs.declared.stop.Direction.TheVariants.{Forward}
use Rattle.mr_iter.specs.Versions.{Version, version_cmp, place_in, joined, merged, in_order}
use Rattle.mr_iter.specs.Order.{each-append, each-place_in, each-in_order, key_total}
use Rattle.mr_iter.specs.Cursors.{SameFiles}
use Rattle.mr_run_file.specs.Reading.{Index, recorded_in}
use Rattle.mr_run_open.specs.Runs.{RunState, opened}
use Rattle.mr_block.specs.Block.{list_of as versions_of_read}
use Rattle.mr_run_file.specs.Reading.{run_in}
use Rattle.mr_run_cursor.specs.Pinned.{run_list}
use Rattle.mr_levels.specs.Levels.{LevelsState, runs as runs_by_level, run_lists, no_runs, with_run, changed_at, newer_first, by_last_key}
use Rattle.mr_manifest.specs.declared.live.LiveRun.{LiveRun}
use Rattle.mr_manifest.specs.Manifest.{manifest_of}
use Rattle.mr_engine_log.specs.declared.batched.Batched.{Batched}
use Rattle.mr_stored.specs.Said.{Place, ◌>>=◌, in_file}
use Rattle.mr_stored.specs.Names.{is_named, direction_in}
use Rattle.mr_stored.specs.Lists.{runs_of, info_of, index_or_none, index_in, with_runs, levels_of, with_batches, list_of, system_of, direction_of, versions_of, run_files, AreNamed, OperationsAreNamed}
use Rattle.mr_stored.specs.Offences.{run_cmp, structures, structure_judged, overlap, overlaps_one, first_overlap, overlap_place, added_in, runs_judged, are_beside}

-- ---- what holds of each run that is placed

abbrev pub OfLevels : (RunState → Type 0) → LevelsState → Type 0
OfLevels P s = AllByRecursion P s.newest × AllByRecursion (λ (rs : List RunState). AllByRecursion P rs) s.deeper

each_joined : (P : RunState → Type 0) (rss : List (List RunState)) → AllByRecursion (λ (rs : List RunState). AllByRecursion P rs) rss → AllByRecursion P (joined rss)
each_joined P [] all = tt
each_joined P (rs ∷ rss) all = each-append P rs (joined rss) all.0 (each_joined P rss all.1)

pub of_runs : (P : RunState → Type 0) (s : LevelsState) → OfLevels P s → AllByRecursion P (runs_by_level s)
of_runs P s all = each-append P s.newest (joined s.deeper) all.0 (each_joined P s.deeper all.1)

newer_total : IsTotalOrder newer_first
newer_total = on_total (λ (r : RunState). r.file) (Rattle.std.proofs.lemmas.Cmp.back_total nat_cmp_total)

last_total : (d : Direction) → IsTotalOrder (by_last_key d)
last_total d = on_total (λ (r : RunState). r.index.last) (key_total d)

of_changed : (P : RunState → Type 0) (d : Direction) (r : RunState) (i : ℕ) (rss : List (List RunState)) → P r → AllByRecursion (λ (rs : List RunState). AllByRecursion P rs) rss → AllByRecursion (λ (rs : List RunState). AllByRecursion P rs) (changed_at i (place_in (by_last_key d) r) rss)
of_changed P d r i [] holds all = tt
of_changed P d r zero (rs ∷ rss) holds all = (each-place_in (by_last_key d) (last_total d) P r rs holds all.0, all.1)
of_changed P d r (suc i) (rs ∷ rss) holds all = (all.0, of_changed P d r i rss holds all.1)

of_placed : (P : RunState → Type 0) (level : ℕ) (r : RunState) (s : LevelsState) → P r → OfLevels P s → OfLevels P (with_run level r s)
of_placed P zero r s holds all = (each-place_in newer_first newer_total P r s.newest holds all.0, all.1)
of_placed P (suc level) r s holds all = (all.0, of_changed P s.direction r level s.deeper holds all.1)

-- what holds of each run of these by its index in the image
pub of_with_runs : (P : RunState → Type 0) (d : Direction) (image : Image) (runs : List LiveRun) (s : LevelsState) → AllByRecursion (λ (run : LiveRun). P (opened (info_of run) d (index_in image run))) runs → OfLevels P s → OfLevels P (with_runs d image runs s)
of_with_runs P d image [] s each all = all
of_with_runs P d image (run ∷ runs) s each all = of_with_runs P d image runs (with_run run.level (opened (info_of run) d (index_in image run)) s) each.1 (of_placed P run.level (opened (info_of run) d (index_in image run)) s each.0 all)

pub each_of_family : (P : LiveRun → Type 0) (family : ℕ) (runs : List LiveRun) → AllByRecursion P runs → AllByRecursion P (runs_of family runs)
each_of_family P family [] all = tt
each_of_family P family (run ∷ runs) all = elim (cases_Bool (run.family == family)) [
  | inl own ↦ rw own (all.0, each_of_family P family runs all.1)
  | inr other ↦ rw other (each_of_family P family runs all.1)
]

pub of_levels : (P : RunState → Type 0) (d : Direction) (family : ℕ) (image : Image) (runs : List LiveRun) → AllByRecursion (λ (run : LiveRun). P (opened (info_of run) d (index_in image run))) runs → OfLevels P (levels_of d family image runs)
of_levels P d family image runs each = of_with_runs P d image (runs_of family runs) (no_runs d) (each_of_family (λ (run : LiveRun). P (opened (info_of run) d (index_in image run))) family runs each) (tt, (tt, (tt, (tt, (tt, tt)))))

-- ---- the same files

module _ (i j : Image) where
  abbrev AreSame : List LiveRun → Type 0
  AreSame runs = AllByRecursion (λ (run : LiveRun). i run.file ≡ j run.file) runs

  pub are_same : (runs : List LiveRun) → SameFiles (run_files runs) i j → AreSame runs
  are_same [] all = tt
  are_same (run ∷ runs) all = (all.0, are_same runs all.1)

  index_same : (run : LiveRun) → i run.file ≡ j run.file → index_in i run ≡ index_in j run
  index_same run same = ap (λ (bytes : List ℕ). index_or_none (recorded_in run.length run.entries bytes)) same

  with_runs_same : (d : Direction) (runs : List LiveRun) (s : LevelsState) → AreSame runs → with_runs d i runs s ≡ with_runs d j runs s
  with_runs_same d [] s all = refl
  with_runs_same d (run ∷ runs) s all =
      ap (λ (x : Index). with_runs d i runs (with_run run.level (opened (info_of run) d x) s)) (index_same run all.0)
      ∙ with_runs_same d runs (with_run run.level (opened (info_of run) d (index_in j run)) s) all.1

  levels_kept : (d : Direction) (family : ℕ) (runs : List LiveRun) → AreSame runs → levels_of d family i runs ≡ levels_of d family j runs
  levels_kept d family runs all = with_runs_same d (runs_of family runs) (no_runs d) (each_of_family (λ (run : LiveRun). i run.file ≡ j run.file) family runs all)

  lists_kept : (rs : List RunState) → AllByRecursion (λ (r : RunState). i r.file ≡ j r.file) rs → run_lists rs i ≡ run_lists rs j
  lists_kept [] all = refl
  lists_kept (r ∷ rs) all = ap (λ (vs : List Version). vs ∷ run_lists rs i) (ap (λ (bytes : List ℕ). versions_of_read (run_in r.entries bytes)) all.0) ∙ ap (λ (vss : List (List Version)). run_list r j ∷ vss) (lists_kept rs all.1)

  list_kept : (d : Direction) (family : ℕ) (runs : List LiveRun) (bs : List Batched) → AreSame runs → list_of d family i runs bs ≡ list_of d family j runs bs
  list_kept d family runs bs all =
      ap (λ (vss : List (List Version)). with_batches d family bs (merged (version_cmp d) vss))
      (lists_kept (runs_by_level (levels_of d family i runs)) (of_runs (λ (r : RunState). i r.file ≡ j r.file) (levels_of d family i runs) (of_levels (λ (r : RunState). i r.file ≡ j r.file) d family i runs all))
      ∙ ap (λ (s : LevelsState). run_lists (runs_by_level s) j) (levels_kept d family runs all))

  module _ (runs : List LiveRun) (same : SameFiles (run_files runs) i j) where
    pub levels_same : (d : Direction) (family : ℕ) → levels_of d family i runs ≡ levels_of d family j runs
    levels_same d family = levels_kept d family runs (are_same runs same)

    pub list_same : (d : Direction) (family : ℕ) (bs : List Batched) → list_of d family i runs bs ≡ list_of d family j runs bs
    list_same d family bs = list_kept d family runs bs (are_same runs same)

    pub system_same : (bs : List Batched) → system_of i runs bs ≡ system_of j runs bs
    system_same bs = list_same Forward 0 bs

    pub direction_same : (bs : List Batched) (family : ℕ) → direction_of i runs bs family ≡ direction_of j runs bs family
    direction_same bs family = ap (λ (system : List Version). direction_in system family) (system_same bs)

    pub versions_same : (bs : List Batched) (family : ℕ) → versions_of i runs bs family ≡ versions_of j runs bs family
    versions_same bs family = ap (λ (d : Direction). list_of d family i runs bs) (direction_same bs family) ∙ list_same (direction_of j runs bs family) family bs

    pub named_same : (bs : List Batched) → AreNamed i runs bs → AreNamed j runs bs
    named_same bs named = record {
      of_runs = subst (λ (system : List Version). AllByRecursion (λ (run : LiveRun). is_named system run.family ≡ true) runs) (system_same bs) named.of_runs;
      of_operations = subst (λ (system : List Version). AllByRecursion (λ (b : Batched). OperationsAreNamed system b.operations) bs) (system_same bs) named.of_operations;
    }

  -- ---- what is judged of the runs

  structures_same : (runs : List LiveRun) → AreSame runs → structures i runs ≡ structures j runs
  structures_same [] all = refl
  structures_same (run ∷ runs) all =
      ap (λ (bytes : List ℕ). in_file run.file (recorded_in run.length run.entries bytes) >>= λ (index : Index). structures i runs) all.0
      ∙ ap (λ (rest : Result (Unit {0}) Place). in_file run.file (recorded_in run.length run.entries (j run.file)) >>= λ (index : Index). rest) (structures_same runs all.1)

  run_total : IsTotalOrder run_cmp
  run_total = then_total (on_total (λ (r : LiveRun). r.family) nat_cmp_total) (then_total (on_total (λ (r : LiveRun). r.level) nat_cmp_total) (on_total (λ (r : LiveRun). r.file) nat_cmp_total))

  overlap_same : (r t : LiveRun) → i r.file ≡ j r.file → i t.file ≡ j t.file → overlap i r t ≡ overlap j r t
  overlap_same r t one other =
      ap (λ (x : Index). (r.family == t.family) && ((r.level == t.level) && (nat_lt 0 r.level && not (are_beside x (index_in i t))))) (index_same r one)
      ∙ ap (λ (x : Index). (r.family == t.family) && ((r.level == t.level) && (nat_lt 0 r.level && not (are_beside (index_in j r) x)))) (index_same t other)

  overlaps_same : (run : LiveRun) (others : List LiveRun) → i run.file ≡ j run.file → AreSame others → overlaps_one i run others ≡ overlaps_one j run others
  overlaps_same run [] own all = refl
  overlaps_same run (other ∷ others) own all =
      ap (λ (b : Bool). b || overlaps_one i run others) (overlap_same run other own all.0)
      ∙ ap (λ (b : Bool). overlap j run other || b) (overlaps_same run others own all.1)

  first_same : (before runs : List LiveRun) → AreSame before → AreSame runs → first_overlap i before runs ≡ first_overlap j before runs
  first_same before [] front all = refl
  first_same before (run ∷ runs) front all =
      ap (λ (b : Bool). if b then Rattle.std.proofs.Common.Some run.file else first_overlap i (run ∷ before) runs) (overlaps_same run before all.0 front)
      ∙ ap (λ (o : Option ℕ). if overlaps_one j run before then Rattle.std.proofs.Common.Some run.file else o) (first_same (run ∷ before) runs (all.0, front) all.1)

  place_same : (o : Option ℕ) → i 0 ≡ j 0 → overlap_place i o ≡ overlap_place j o
  place_same Rattle.std.proofs.Common.None same = refl
  place_same (Rattle.std.proofs.Common.Some file) same = ap (λ (bytes : List ℕ). Err (0, added_in file (manifest_of bytes))) same

  pub judged_same : (runs : List LiveRun) → SameFiles (run_files runs) i j → i 0 ≡ j 0 → runs_judged i runs ≡ runs_judged j runs
  judged_same runs same manifest =
      let all = are_same runs same in
      ap (λ (judged : Result (Unit {0}) Place). judged >>= λ none. overlap_place i (first_overlap i [] runs))
      (structures_same (in_order run_cmp runs) (each-in_order run_cmp run_total (λ (run : LiveRun). i run.file ≡ j run.file) runs all))
      ∙ ap (λ (place : Result (Unit {0}) Place). structure_judged j runs >>= λ none. place)
      (ap (λ (o : Option ℕ). overlap_place i o) (first_same [] runs tt all) ∙ place_same (first_overlap j [] runs) manifest)
