-- What a merge has written so far, and what is still to be written.
use Rattle.std.specs.Prelude.{◌≡◌, ℕ, ◌+◌, ◌<◌, ◌≤◌, Bool, true, not, ◌&&◌, IsTrue, cond, List, ◌++◌, length, Option, Some, None, nat_lt, if◌then◌else◌}
use Rattle.mr_base.specs.Disk.{State, File, Tells, present, file_of, seen}
use Rattle.mr_base.specs.Calls.{During, Counts}
use Rattle.mr_iter.specs.Versions.{Version, version_cmp, IsInOrder}
use Rattle.mr_iter.specs.Snapshots.{is_skipped}
use Rattle.mr_iter.specs.RunOuts.{OutState}
use Rattle.mr_iter.specs.declared.run.RunInfo.{RunInfo}
use Rattle.mr_compact.specs.Kept.{Keeps, kept_put, run_bytes, last_key, runs_from}
use Rattle.mr_compact.specs.Merges.{IsOutside, AreNumbered, AreWritten}
use Rattle.mr_compact.specs.declared.merging.Passed.{Passed}
use Rattle.mr_compact.specs.declared.merging.Written.{Written}

abbrev pub passed_key : Passed → Option (List ℕ)
passed_key p = cond p.is (Some p.key.items) None

-- how many files were touched at most: one a run, and that of the run that has begun
abbrev pub touched : Written → ℕ
touched w = cond w.last.is (length w.runs + 1) (length w.runs)

-- Calls that write: they made no read and so many syncs at most, and changed no file but so many from the first one on.
pub record Writes (first files syncs : ℕ) (s s' : State) : Type 0 where
  pub counts : Counts 0 0 syncs s s'
  pub outside : Tells s → During s s' (IsOutside first files (present s))

-- each sync is of a run that is done
abbrev pub IsSynced : Written → Written → State → State → Type 0
IsSynced w w' s s' = s'.syncs + length w.runs ≤ s.syncs + length w'.runs

-- what writing a version comes to: one file more at most, and each sync is of a run that is done
pub record Wrote (w w' : Written) (s s' : State) : Type 0 where
  pub writes : Writes w.first_file (touched w') 1 s s'
  pub grown : touched w ≤ touched w'
  pub one : touched w' ≤ touched w + 1
  pub synced : IsSynced w w' s s'

-- The runs have the numbers from the first one on; where one has begun, it is the next one's, and its file is as the output left it.
pub record Ready (first : ℕ) (begun some : Bool) (as_left : File → Type 0) (s : State) (o : OutState) (runs : List RunInfo) : Type 0 where
  pub numbered : AreNumbered first runs
  pub file : IsTrue begun → o.file ≡ Some (first + length runs)
  pub bytes : IsTrue some → 0 < o.bytes
  pub stands : IsTrue begun → Tells s → as_left (file_of s (first + length runs))

-- between two versions, and where a run has begun
abbrev pub IsReady : (File → Type 0) → State → OutState → Written → Type 0
IsReady as_left s o w = Ready w.first_file w.last.is w.last.is as_left s o w.runs

abbrev pub IsBegun : (File → Type 0) → State → OutState → Written → Type 0
IsBegun as_left s o w = Ready w.first_file true w.last.is as_left s o w.runs

-- The runs that are done, and what becomes of the versions of the one that has begun and of the rest, are all the runs.
pub record Holds (is_run : ℕ → List ℕ → List Version → Type 0) (begun : Bool) (s : State) (o : OutState) (runs : List RunInfo) (key : Option (List ℕ)) (more : List Version → List (List Version)) (rest : List Version) (all : List (List Version)) : Type 0 where
  pub done : List (List Version)
  pub current : List Version
  pub are : AreWritten is_run s runs done
  pub parts : done ++ more current ≡ all
  pub order : IsInOrder (version_cmp o.direction) (current ++ rest)
  pub last : key ≡ last_key current
  pub added : IsTrue begun → o.added (seen s) ≡ current
  pub bytes : IsTrue begun → o.bytes ≡ run_bytes current

abbrev pub Stands : (ℕ → List ℕ → List Version → Type 0) → State → OutState → Written → (List Version → List (List Version)) → List Version → List (List Version) → Type 0
Stands is_run s o w more rest all = Holds is_run w.last.is s o w.runs (passed_key w.last) more rest all

abbrev pub Begins : (ℕ → List ℕ → List Version → Type 0) → State → OutState → Written → (List Version → List (List Version)) → List Version → List (List Version) → Type 0
Begins is_run s o w more rest all = Holds is_run true s o w.runs (passed_key w.last) more rest all

-- the rest in runs, behind the versions of the run that has begun
abbrev pub runs_behind : List Version → List Version → List (List Version)
runs_behind rest run = runs_from run rest

-- a version that isn't past the oldest number and whose key was passed
abbrev pub is_older : ℕ → Option (List ℕ) → Version → Bool
is_older oldest skip v = not (nat_lt oldest v.sequence) && is_skipped skip v.key

-- the key that was passed, once this version was
abbrev pub passing : ℕ → Option (List ℕ) → Version → Option (List ℕ)
passing oldest skip v = if nat_lt oldest v.sequence then skip else (if is_skipped skip v.key then skip else Some v.key)

-- the put of a version as it is written
abbrev pub put_of : ℕ → Keeps → Version → Option (List ℕ)
put_of oldest keeps v = if nat_lt oldest v.sequence then v.put else kept_put keeps v.key v.put
