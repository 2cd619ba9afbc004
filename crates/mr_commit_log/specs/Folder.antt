-- Which folders are readable and valid, and which commits they stand for.
use Rattle.std.specs.Prelude.{◌≡◌, ℕ, List, false, Some}
use Rattle.mr_base.specs.Disk.{Image}
use Rattle.mr_gate.specs.Log.{records_from, is_damaged_from}
use Rattle.mr_spec.specs.Lawful.{IsLawful}
use Rattle.mr_types.specs.declared.row.Commit.{Commit}
use Rattle.mr_commit_log.specs.LogCommits.{read_commits}

-- a file is a log without damage, and the bodies of its records are these commits
pub record Holds (commits : List Commit) (bytes : List ℕ) : Type 0 where
  pub sound : is_damaged_from 0 bytes ≡ false
  pub read : read_commits (records_from 0 bytes) ≡ Some commits

-- an image is readable where file 1, the binary log, holds some commits
abbrev pub IsReadable : Image → Type 0
IsReadable image = (commits : List Commit) × Holds commits (image 1)

-- An image stands for these commits: file 1, the binary log, holds them, and they are lawful. No other file has a meaning.
pub record StandsFor (image : Image) (commits : List Commit) : Type 0 where
  pub log : Holds commits (image 1)
  pub lawful : IsLawful commits

-- an image is valid where it stands for some commits
abbrev pub IsValid : Image → Type 0
IsValid image = (commits : List Commit) × StandsFor image commits
