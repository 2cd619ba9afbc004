-- A run that was opened.
use Rattle.std.specs.Prelude.{◌≡◌, ℕ, Ok}
use Rattle.mr_base.specs.Disk.{State, Tells, seen}
use Rattle.mr_iter.specs.declared.run.RunInfo.{RunInfo}
use Rattle.mr_run_file.specs.Reading.{Index, recorded_in}
use Rattle.mr_run_open.specs.Runs.{opened}
use Rattle.mr_levels.specs.Levels.{LevelsState, with_run}

-- This run is added to a level, with an index, which is the file's where its contents are told.
pub record IsOpened (level : ℕ) (info : RunInfo) (disk : State) (old new : LevelsState) : Type 0 where
  pub index : Index
  pub added : new ≡ with_run level (opened info old.direction index) old
  pub told : Tells disk → recorded_in info.length info.entries (seen disk info.file) ≡ Ok index
