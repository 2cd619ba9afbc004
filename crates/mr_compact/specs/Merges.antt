-- What a merge does to the disk and to its cursor.
use Rattle.std.specs.Prelude.{◌≡◌, ℕ, ◌+◌, ◌-◌, ◌<◌, ◌≤◌, suc, IsTrue, List, [], ◌∷◌, length, Result, Ok, Err}
use Rattle.std.specs.List.{AllByRecursion}
use Rattle.mr_base.specs.Disk.{State, Moment, Tells, Image, HasRisen, IsAtRest, present, file_of, seen}
use Rattle.mr_base.specs.Calls.{During, Counts}
use Rattle.mr_base.specs.declared.stop.Stop.{Stop}
use Rattle.mr_base.specs.declared.stop.Stop.TheVariants.{Memory, Disk, Full, Damaged}
use Rattle.mr_iter.specs.Versions.{Version}
use Rattle.mr_iter.specs.Cursors.{CursorState, SameList}
use Rattle.mr_iter.specs.Walks.{Within}
use Rattle.mr_iter.specs.declared.run.RunInfo.{RunInfo}

-- at this moment the files but `count` of them from `first` on, and the output, are as at the start
pub record IsOutside (first count : ℕ) (start m : Moment) : Type 0 where
  pub before : (file : ℕ) → file < first → m.files file ≡ start.files file
  pub behind : (file : ℕ) → first + count ≤ file → m.files file ≡ start.files file
  pub output : m.output ≡ start.output

-- these files have numbers below the first new one
abbrev pub AreBefore : ℕ → List ℕ → Type 0
AreBefore first files = AllByRecursion (λ file. file < first) files

-- What a merge does, however it ends: its cursor's list stays, the disk's reads rose by no more than the cursor's and its syncs
-- by one a new file at most, no other file changed, and where the cursor's files are before the new ones it stays whole, within
-- its bounds, and finds no other damage.
pub record Merges (first count : ℕ) (offends offends' : Image → ℕ → ℕ → Type 0) (whole whole' steady steady' : Image → Type 0) (c c' : CursorState) (s s' : State) : Type 0 where
  pub list : SameList c c'
  pub reads : c.reads ≤ c'.reads
  pub asked : c.asked ≤ c'.asked
  pub counts : Counts (c'.reads - c.reads) (c'.asked - c.asked) count s s'
  pub outside : Tells s → During s s' (IsOutside first count (present s))
  pub offends_less : (image : Image) (file at : ℕ) → offends' image file at → offends image file at
  pub stays_whole : Tells s → AreBefore first c.files → whole (seen s) → whole' (seen s)
  pub within : (k : List ℕ) → Tells s → AreBefore first c.files → whole (seen s) → IsTrue (c.distinct (seen s)) → Within k steady c (seen s) → Within k steady' c' (seen s)

-- how many new files it has touched at most: after Ok one a run, after an error one a step of its cursor
abbrev pub touched_files : {E : Type 0} → Result (List RunInfo) E → ℕ → ℕ
touched_files (Ok runs) steps = length runs
touched_files (Err e) steps = steps

-- an offence of the cursor's files; where these are before the new ones and the disk tells, as they were at the start
pub record IsOffence (offends : Image → ℕ → ℕ → Type 0) (first : ℕ) (files : List ℕ) (old : State) (file at : ℕ) : Type 0 where
  pub image : Image
  pub told : Tells old → AreBefore first files → image ≡ seen old
  pub offence : offends image file at

-- a stop of a merge and its cause
abbrev pub MayEnd : (Image → ℕ → ℕ → Type 0) → ℕ → List ℕ → State → State → Stop → Type 0
MayEnd offends first files old new Memory = Unit {0}
MayEnd offends first files old new Disk = HasRisen old.faults new.faults
MayEnd offends first files old new (Full what at limit) = ⊥
MayEnd offends first files old new (Damaged file at) = IsOffence offends first files old file at

-- the runs are in the files from this one on
abbrev pub AreNumbered : ℕ → List RunInfo → Type 0
AreNumbered file [] = Unit {0}
AreNumbered file (run ∷ runs) = (run.file ≡ file) × AreNumbered (suc file) runs

-- the run of these versions is in its file, and a crash leaves it just as a read gives it
pub record IsWritten (is_run : ℕ → List ℕ → List Version → Type 0) (s : State) (run : RunInfo) (versions : List Version) : Type 0 where
  pub run_of : is_run run.entries (file_of s run.file).bytes versions
  pub long : length (file_of s run.file).bytes ≡ run.length
  pub entries : run.entries ≡ length versions
  pub at_rest : IsAtRest (file_of s run.file)

abbrev pub AreWritten : (ℕ → List ℕ → List Version → Type 0) → State → List RunInfo → List (List Version) → Type 0
AreWritten is_run s [] [] = Unit {0}
AreWritten is_run s [] (versions ∷ more) = ⊥
AreWritten is_run s (run ∷ runs) [] = ⊥
AreWritten is_run s (run ∷ runs) (versions ∷ more) = IsWritten is_run s run versions × AreWritten is_run s runs more
