-- A flush: the versions in memory become one of the newest runs.
use Rattle.std.specs.Prelude.{◌≡◌, ◌≢◌, ℕ, ◌+◌, ◌≤◌, List, [], ◌∷◌, Option, Some, None}
use Rattle.mr_base.specs.Disk.{State, Tells, Image, HasRisen, seen}
use Rattle.mr_base.specs.Calls.{Counts, Rises}
use Rattle.mr_base.specs.declared.stop.Stop.{Stop}
use Rattle.mr_base.specs.declared.stop.Stop.TheVariants.{Memory, Disk, Full, Damaged}
use Rattle.mr_iter.specs.Versions.{Version, version_cmp, merged}
use Rattle.mr_iter.specs.RunOuts.{KeepsOthers}
use Rattle.mr_iter.specs.declared.run.RunInfo.{RunInfo}
use Rattle.mr_memtable.specs.Tables.{MemState}
use Rattle.mr_run_file.specs.Reading.{IsRun, footer_number}
use Rattle.mr_compact.specs.Merges.{IsWritten}
use Rattle.mr_levels.specs.Levels.{LevelsState, runs, run_lists}
use Rattle.mr_levels.specs.Opened.{IsOpened}

-- the versions of a memtable and of runs as one list
abbrev pub versions_of : MemState → LevelsState → Image → List Version
versions_of m s image = merged (version_cmp s.direction) (m.versions ∷ run_lists (runs s) image)

-- no version, and no room for any
abbrev pub emptied : MemState → MemState
emptied m = record { direction = m.direction; versions = []; entries = 0; bytes = 0 }

-- All versions in memory are one run in this file, which is one of the newest runs now, and none is left in memory.
pub record IsFlushed (file : ℕ) (info : RunInfo) (s t : State) (m m' : MemState) (l l' : LevelsState) : Type 0 where
  pub some : m.versions ≢ []
  pub named : info.file ≡ file
  pub memtable : m' ≡ emptied m
  pub opened : IsOpened 0 info t l l'
  pub written : Tells s → IsWritten (IsRun l.direction) t info m.versions
  pub counts : Counts 2 info.length 1 s t

-- what a flush answers: the run, or nothing where there was no version in memory
abbrev pub IsFlush : ℕ → State → State → MemState → MemState → LevelsState → LevelsState → Option RunInfo → Type 0
IsFlush file s t m m' l l' None = m.versions ≡ []
IsFlush file s t m m' l l' (Some info) = IsFlushed file info s t m m' l l'

-- However it ends: no other file changes at any moment, there is one sync at the most, and two reads, of the footer and the index of the
-- run that was written.
pub record Flushes (file : ℕ) (s t : State) : Type 0 where
  pub others : Tells s → KeepsOthers file s t
  pub rises : Rises 1 s t
  pub reads : t.reads ≤ s.reads + 2
  pub asked : Tells s → t.asked ≤ s.asked + (40 + footer_number 1 (seen t file))

-- a stop of a flush and its cause; the run that was just written is found damaged only on a disk that doesn't tell its contents
abbrev pub FlushStops : ℕ → State → State → Stop → Type 0
FlushStops file s t Memory = Unit {0}
FlushStops file s t Disk = HasRisen s.faults t.faults
FlushStops file s t (Full what at limit) = ⊥
FlushStops file s t (Damaged f at) = (f ≡ file) × (Tells s → ⊥)
