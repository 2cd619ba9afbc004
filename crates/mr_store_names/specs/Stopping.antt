-- Why the opening of family 0 ends early.
use Rattle.std.specs.Prelude.{◌≡◌, ℕ, List, Err}
use Rattle.mr_base.specs.Disk.{State, Tells, HasRisen, seen}
use Rattle.mr_base.specs.declared.stop.Stop.{Stop}
use Rattle.mr_base.specs.declared.stop.Stop.TheVariants.{Memory, Disk, Full, Damaged}
use Rattle.mr_iter.specs.Children.{AnyOf}
use Rattle.mr_run_file.specs.Reading.{recorded_in}
use Rattle.mr_manifest.specs.declared.live.LiveRun.{LiveRun}

-- The run is one of family 0 in this file; where its contents are told, this place is the first offence of its structure.
pub record IsBroken (disk : State) (file at : ℕ) (run : LiveRun) : Type 0 where
  pub own : run.family ≡ 0
  pub file_is : file ≡ run.file
  pub told : Tells disk → recorded_in run.length run.entries (seen disk run.file) ≡ Err at

-- a stop of the opening of one run and its cause
abbrev pub RunStops : LiveRun → State → State → Stop → Type 0
RunStops run old new Memory = Unit {0}
RunStops run old new Disk = HasRisen old.faults new.faults
RunStops run old new (Full what at limit) = ⊥
RunStops run old new (Damaged file at) = IsBroken old file at run

-- a stop of the opening of family 0 among these runs and its cause: damage is that of one of its own
abbrev pub SystemStops : List LiveRun → State → State → Stop → Type 0
SystemStops runs old new Memory = Unit {0}
SystemStops runs old new Disk = HasRisen old.faults new.faults
SystemStops runs old new (Full what at limit) = ⊥
SystemStops runs old new (Damaged file at) = AnyOf (IsBroken old file at) runs
