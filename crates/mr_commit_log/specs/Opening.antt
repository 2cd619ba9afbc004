-- How the binary log of a folder is opened and its commits are read.
use Rattle.std.specs.Prelude.{◌≡◌, ◌⊎◌, ℕ, ◌+◌, List, [], ◌∷◌, ◌++◌, length, true, false, Option, Some, None, Result, Ok, Err}
use Rattle.mr_base.specs.Disk.{State, Moment, Tells, MayLeave, IsAtRest, HasRisen, present, file_of}
use Rattle.mr_base.specs.Calls.{During}
use Rattle.mr_base.specs.declared.stop.Stop.{Stop}
use Rattle.mr_base.specs.declared.stop.Stop.TheVariants.{Memory, Disk, Full, Damaged}
use Rattle.mr_gate.specs.Log.{records_from, end_from, is_damaged_from, span, IsLog}
use Rattle.mr_binlog.specs.CommitForm.{reads_commit}
use Rattle.mr_types.specs.declared.row.Commit.{Commit}
use Rattle.mr_commit_log.specs.Folder.{Holds}
use Rattle.mr_commit_log.specs.LogCommits.{read_commits}

-- where a body that stands behind this record's place first offends, and else what the records behind it say
abbrev pub offence_or : ℕ → Result Commit ℕ → Option ℕ → Option ℕ
offence_or at (Ok c) others = others
offence_or at (Err place) others = Some (at + 5 + place)

-- The place of the first offence in a body that is no commit, None where each is one. The first record stands at that place.
abbrev pub offence : ℕ → List (List ℕ) → Option ℕ
offence at [] = None
offence at (body ∷ bodies) = offence_or at (reads_commit body) (offence (at + (5 + length body)) bodies)

-- The binary log is damaged at this place: as a log, or else it is the first offence in a body.
abbrev pub IsDamagedAt : List ℕ → ℕ → Type 0
IsDamagedAt bytes at = ((is_damaged_from 0 bytes ≡ true) × (at ≡ end_from 0 bytes)) ⊎ ((is_damaged_from 0 bytes ≡ false) × (offence 0 (records_from 0 bytes) ≡ Some at))

-- what an opening shows that ends so
abbrev pub IsOpeningCause : State → State → Stop → Type 0
IsOpeningCause old new Memory = Unit {0}
IsOpeningCause old new Disk = HasRisen old.faults new.faults
IsOpeningCause old new (Full what at limit) = ⊥
IsOpeningCause old new (Damaged file at) = (file ≡ 1) × (Tells old → IsDamagedAt (file_of old 1).bytes at)

-- these commits are what some bodies are read as
abbrev pub AreRead : List Commit → Type 0
AreRead commits = (bodies : List (List ℕ)) × (read_commits bodies ≡ Some commits)

-- the bodies of the records before this place are these commits
pub record Replaying (s : State) (at : ℕ) (commits : List Commit) : Type 0 where
  pub bodies : List (List ℕ)
  pub place : at ≡ span bodies
  pub read : read_commits bodies ≡ Some commits
  pub behind : Tells s → records_from 0 (file_of s 1).bytes ≡ bodies ++ records_from at (file_of s 1).bytes

-- at each moment the output is as before
abbrev pub IsSilent : State → State → Type 0
IsSilent old new = During old new (λ m. m.output ≡ (present old).output)

-- where the binary log itself isn't damaged and nothing of it is pending, a crash at any moment leaves a log of the same records
abbrev pub KeepsRecords : State → State → Type 0
KeepsRecords old new = is_damaged_from 0 (file_of old 1).bytes ≡ false → IsAtRest (file_of old 1) → During old new (λ m. (bytes : List ℕ) → MayLeave (m.files 1) bytes → IsLog 0 (records_from 0 (file_of old 1).bytes) bytes)

-- at this moment the output is as before, and a crash leaves these commits in file 1
pub record IsKept (commits : List Commit) (output : List ℕ) (m : Moment) : Type 0 where
  pub emitted : m.output ≡ output
  pub left : (bytes : List ℕ) → MayLeave (m.files 1) bytes → Holds commits bytes
