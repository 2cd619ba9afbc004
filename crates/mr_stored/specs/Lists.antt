-- The versions of each family, by what the files say.
use Rattle.std.specs.Prelude.{◌≡◌, ℕ, true, ◌==◌, if◌then◌else◌, List, [], ◌∷◌, map, Result, Ok, Err}
use Rattle.std.specs.List.{AllByRecursion}
use Rattle.mr_base.specs.Disk.{Image}
use Rattle.mr_base.specs.declared.stop.Direction.{Direction}
use Rattle.mr_base.specs.declared.stop.Direction.TheVariants.{Forward}
use Rattle.mr_wal.specs.declared.operation.Operation.{Operation}
use Rattle.mr_iter.specs.Versions.{Version, version_cmp, merged}
use Rattle.mr_iter.specs.declared.run.RunInfo.{RunInfo}
use Rattle.mr_run_file.specs.Reading.{Index, recorded_in}
use Rattle.mr_run_open.specs.Runs.{opened}
use Rattle.mr_levels.specs.Levels.{LevelsState, runs as runs_by_level, run_lists, no_runs, with_run}
use Rattle.mr_manifest.specs.declared.live.Live.{Live}
use Rattle.mr_manifest.specs.declared.live.LiveRun.{LiveRun}
use Rattle.mr_engine_log.specs.declared.batched.Batched.{Batched}
use Rattle.mr_families.specs.Batches.{with_operations}
use Rattle.mr_stored.specs.Names.{is_named, direction_in}

-- ---- the live runs

abbrev pub runs_of : ℕ → List LiveRun → List LiveRun
runs_of family [] = []
runs_of family (run ∷ runs) = if run.family == family then run ∷ runs_of family runs else runs_of family runs

abbrev pub info_of : LiveRun → RunInfo
info_of run = record { file = run.file; length = run.length; entries = run.entries }

abbrev pub index_or_none : Result Index ℕ → Index
index_or_none (Ok index) = index
index_or_none (Err place) = record { blocks = []; last = [] }

-- the index that its file has
abbrev pub index_in : Image → LiveRun → Index
index_in image run = index_or_none (recorded_in run.length run.entries (image run.file))

-- runs that are opened one after the other, each into its level
abbrev pub with_runs : Direction → Image → List LiveRun → LevelsState → LevelsState
with_runs d image [] s = s
with_runs d image (run ∷ runs) s = with_runs d image runs (with_run run.level (opened (info_of run) d (index_in image run)) s)

-- those of a family
abbrev pub levels_of : Direction → ℕ → Image → List LiveRun → LevelsState
levels_of d family image runs = with_runs d image (runs_of family runs) (no_runs d)

-- ---- batches over them

abbrev pub with_batches : Direction → ℕ → List Batched → List Version → List Version
with_batches d family [] vs = vs
with_batches d family (b ∷ bs) vs = with_batches d family bs (with_operations d family b.sequence b.operations vs)

abbrev pub list_of : Direction → ℕ → Image → List LiveRun → List Batched → List Version
list_of d family image runs batches = with_batches d family batches (merged (version_cmp d) (run_lists (runs_by_level (levels_of d family image runs)) image))

-- ---- with each family's direction, which the versions of family 0 tell

abbrev pub system_of : Image → List LiveRun → List Batched → List Version
system_of image runs batches = list_of Forward 0 image runs batches

abbrev pub direction_of : Image → List LiveRun → List Batched → ℕ → Direction
direction_of image runs batches family = direction_in (system_of image runs batches) family

-- all versions of a family
abbrev pub versions_of : Image → List LiveRun → List Batched → ℕ → List Version
versions_of image runs batches family = list_of (direction_of image runs batches family) family image runs batches

abbrev pub OperationsAreNamed : List Version → List Operation → Type 0
OperationsAreNamed system os = AllByRecursion (λ (o : Operation). is_named system o.family ≡ true) os

-- each family of a live run and of an operation that counts has a record that names it
pub record AreNamed (image : Image) (runs : List LiveRun) (batches : List Batched) : Type 0 where
  pub of_runs : AllByRecursion (λ (run : LiveRun). is_named (system_of image runs batches) run.family ≡ true) runs
  pub of_operations : AllByRecursion (λ (b : Batched). OperationsAreNamed (system_of image runs batches) b.operations) batches

-- ---- the files that all of it reads

abbrev pub run_files : List LiveRun → List ℕ
run_files runs = map (λ (run : LiveRun). run.file) runs

-- The manifest, the live log and the live runs. An empty folder's manifest is looked at beside the binary log's begin.
abbrev pub own_files : Live → List ℕ
own_files live = 0 ∷ live.log ∷ run_files live.runs
