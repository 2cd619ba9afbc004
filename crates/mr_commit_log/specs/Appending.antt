-- What is known of a host while commits are appended to the binary log.
use Rattle.std.specs.Prelude.{◌≡◌, ℕ, ◌+◌, ◌<◌, List, ◌∷◌, ◌++◌, length, take, true, Option, Some, None, Result, Ok, Err}
use Rattle.mr_base.specs.Disk.{State, Moment, Tells, MayLeave, IsAtRest, present, file_of}
use Rattle.mr_base.specs.Calls.{During}
use Rattle.mr_base.specs.declared.stop.Stop.TheVariants.{Full}
use Rattle.mr_base.specs.declared.stop.FullKind.{FullKind}
use Rattle.mr_base.specs.declared.stop.FullKind.TheVariants.{Log}
use Rattle.mr_gate.specs.Gate.{Gate, Stands as StandsOn}
use Rattle.mr_spec.specs.Lawful.{IsLawful}
use Rattle.mr_types.specs.declared.row.Commit.{Commit}
use Rattle.mr_commit_log.specs.Folder.{Holds}
use Rattle.mr_commit_log.specs.Room.{record_size, log_length, HasRoom}
use Rattle.mr_commit_log.specs.declared.ending.Ending.{Ending}
use Rattle.mr_commit_log.specs.declared.ending.Ending.TheVariants.{Stopped}

-- why an answer ended early, None where it came to its end
abbrev pub early : {T : Type 0} → Result T Ending → Option Ending
early (Ok x) = None
early (Err e) = Some e

-- the log is file 1 from its beginning, is open, and stands on what the file has
pub record IsReady (log : Gate) (s : State) : Type 0 where
  pub file : log.file ≡ 1
  pub from : log.from ≡ 0
  pub is_open : log.is_open ≡ true
  pub stands : Tells s → StandsOn log (file_of s 1).bytes

-- file 1 holds these commits, which are lawful, and is at rest, and this is the output
pub record IsSettled (s : State) (commits : List Commit) (output : List ℕ) : Type 0 where
  pub log : Holds commits (file_of s 1).bytes
  pub lawful : IsLawful commits
  pub at_rest : IsAtRest (file_of s 1)
  pub emitted : (present s).output ≡ output

-- At this moment the output is as before, and what a crash leaves in file 1 holds the commits from before and the first ones of
-- those that are added.
pub record IsAppending (commits added : List Commit) (output : List ℕ) (m : Moment) : Type 0 where
  pub emitted : m.output ≡ output
  pub left : (bytes : List ℕ) → MayLeave (m.files 1) bytes → (n : ℕ) × Holds (commits ++ take n added) bytes × IsLawful (commits ++ take n added)

-- The first of the commits that are added are there, the log has this length, and the next one would take it past the limit.
pub record IsFullFor (most : ℕ) (s : State) (commits added : List Commit) (output : List ℕ) (what : FullKind) (at limit : ℕ) : Type 0 where
  pub first : List Commit
  pub next : Commit
  pub others : List Commit
  pub split : added ≡ first ++ next ∷ others
  pub settled : IsSettled s (commits ++ first) output
  pub room : HasRoom most (log_length commits) first
  pub what_is : what ≡ Log 1
  pub limit_is : limit ≡ most
  pub length_is : at ≡ length (file_of s 1).bytes
  pub sum : at ≡ log_length (commits ++ first)
  pub past : most < at + record_size next

-- From a host that was settled on, these commits were appended below a limit, wholly where that didn't end early.
pub record AppendsFrom (most : ℕ) (old new : State) (added : List Commit) (ending : Option Ending) (commits : List Commit) (output : List ℕ) : Type 0 where
  pub moments : During old new (IsAppending commits added output)
  pub settled : ending ≡ None → IsSettled new (commits ++ added) output
  pub room : ending ≡ None → HasRoom most (log_length commits) added
  pub full : (what : FullKind) (at limit : ℕ) → ending ≡ Some (Stopped (Full what at limit)) → IsFullFor most new commits added output what at limit

abbrev pub Appends : ℕ → State → State → List Commit → Option Ending → List Commit → Type 0
Appends most old new added ending commits = Tells old → (output : List ℕ) → IsSettled old commits output → AppendsFrom most old new added ending commits output
