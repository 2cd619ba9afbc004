-- How long the binary log is, and for which commits it has room.
use Rattle.std.specs.Prelude.{ℕ, ◌+◌, ◌≤◌, List, [], ◌∷◌, length}
use Rattle.mr_binlog.specs.CommitForm.{commit_bytes}
use Rattle.mr_types.specs.declared.row.Commit.{Commit}

-- what a commit takes in the log: five bytes and its body
abbrev pub record_size : Commit → ℕ
record_size c = 5 + length (commit_bytes c)

-- the length of the log of these commits: one byte, and what each of them takes
abbrev pub log_length : List Commit → ℕ
log_length [] = 1
log_length (c ∷ cs) = record_size c + log_length cs

-- a log of this length takes these commits, one after the other, and none of them passes this limit
abbrev pub HasRoom : ℕ → ℕ → List Commit → Type 0
HasRoom most at [] = Unit {0}
HasRoom most at (c ∷ cs) = (at + record_size c ≤ most) × HasRoom most (at + record_size c) cs
