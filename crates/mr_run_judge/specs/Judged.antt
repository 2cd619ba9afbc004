-- What is known of runs whose structure was judged, and why a judgement stops.
use Rattle.std.specs.Prelude.{◌≡◌, ℕ, ◌+◌, List, [], ◌∷◌, Result, Ok, Err}
use Rattle.mr_base.specs.Disk.{Image, State, Tells, HasRisen, seen}
use Rattle.mr_base.specs.declared.stop.Stop.{Stop}
use Rattle.mr_base.specs.declared.stop.Stop.TheVariants.{Memory, Disk, Full, Damaged}
use Rattle.mr_run_file.specs.Reading.{recorded_in}
use Rattle.mr_manifest.specs.declared.live.LiveRun.{LiveRun}
use Rattle.mr_stored.specs.Said.{Place}
use Rattle.mr_stored.specs.Lists.{index_in}
use Rattle.mr_stored.specs.Offences.{lowest, highest}
use Rattle.mr_run_judge.specs.declared.ends.Ends.{Ends}

-- the lengths of all files as they are recorded
abbrev pub lengths : List LiveRun → ℕ
lengths [] = 0
lengths (run ∷ runs) = run.length + lengths runs

abbrev pub no_run : LiveRun
no_run = record { family = 0; level = 0; file = 0; length = 0; entries = 0 }

-- the structure of its file is sound
abbrev pub IsSound : Image → LiveRun → Type 0
IsSound image run = recorded_in run.length run.entries (image run.file) ≡ Ok (index_in image run)

-- its least and greatest key, by its file
abbrev pub HasEnds : Image → Ends → Type 0
HasEnds image e = (e.lowest ≡ lowest (index_in image e.run)) × (e.highest ≡ highest (index_in image e.run))

-- a stop and its cause: the damage is the first offence, where the files are told
abbrev pub JudgeStops : (Image → Result (Unit {0}) Place) → State → State → Stop → Type 0
JudgeStops judged old new Memory = Unit {0}
JudgeStops judged old new Disk = HasRisen old.faults new.faults
JudgeStops judged old new (Full what at limit) = ⊥
JudgeStops judged old new (Damaged file at) = Tells old → judged (seen old) ≡ Err (file, at)

abbrev pub no_ends : Ends
no_ends = record { run = no_run; lowest = []; highest = [] }
