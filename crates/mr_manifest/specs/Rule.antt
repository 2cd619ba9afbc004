-- The rule on file numbers, after the last record of a manifest.
use Rattle.std.specs.Prelude.{ℕ, ◌==◌, Bool, true, false, ◌&&◌, ◌||◌, not, nat_lt, List, [], ◌∷◌, Option, Some, None}
use Rattle.mr_manifest.specs.declared.edit.Edit.{Edit}
use Rattle.mr_manifest.specs.declared.edit.Edit.TheVariants.{RunAdded, RunDropped, LiveLog, BinlogPlace, NextFile, LastSequence, Format}
use Rattle.mr_manifest.specs.declared.live.Live.{Live}
use Rattle.mr_manifest.specs.declared.live.LiveRun.{LiveRun}

-- a run of these is in this file
abbrev pub is_among : ℕ → List LiveRun → Bool
is_among file [] = false
is_among file (run ∷ runs) = (run.file == file) || is_among file runs

-- the file is the live engine log's or a live run's
abbrev pub is_live : ℕ → Live → Bool
is_live file live = (live.log == file) || is_among file live.runs

-- a number from 16 on, below the next file number
abbrev pub is_given : Live → ℕ → Bool
is_given live file = nat_lt 15 file && nat_lt file live.next_file

-- the live runs have such numbers, each its own, and none the live log's
abbrev pub runs_fit : Live → List LiveRun → Bool
runs_fit live [] = true
runs_fit live (run ∷ runs) = (is_given live run.file && (not (run.file == live.log) && not (is_among run.file runs))) && runs_fit live runs

-- a file that is no longer used has a number from 16 on, and isn't live
abbrev pub is_free : Live → ℕ → Bool
is_free live file = nat_lt 15 file && not (is_live file live)

abbrev pub drop_fits : Live → Edit → Bool
drop_fits live (RunAdded family level file length entries) = true
drop_fits live (RunDropped file) = is_free live file
drop_fits live (LiveLog file) = true
drop_fits live (BinlogPlace place commits) = true
drop_fits live (NextFile file) = true
drop_fits live (LastSequence sequence) = true
drop_fits live (Format format) = true

abbrev pub drops_fit : Live → List Edit → Bool
drops_fit live [] = true
drops_fit live (e ∷ es) = drop_fits live e && drops_fit live es

-- the live log before the last record, where there was one and it is another now
abbrev pub log_fits : Live → Option ℕ → Bool
log_fits live None = true
log_fits live (Some before) = (before == live.log) || is_free live before

-- The live log and the live runs have distinct numbers from 16 on, below the next file number; the files that the last record's
-- edits drop, and the live log's predecessor, have numbers from 16 on and aren't live.
abbrev pub numbers_fit : Live → Option ℕ → List Edit → Bool
numbers_fit live before last = is_given live live.log && (runs_fit live live.runs && (drops_fit live last && log_fits live before))
