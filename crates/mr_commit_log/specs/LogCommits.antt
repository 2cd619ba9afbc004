-- The commits that the bodies of a log are.
use Rattle.std.specs.Prelude.{ℕ, List, [], ◌∷◌, Option, Some, None, Result, Ok, Err, if◌then◌else◌}
use Rattle.std.specs.List.{list_all}
use Rattle.mr_fields.specs.Fields.{is_byte}
use Rattle.mr_binlog.specs.CommitForm.{reads_commit}
use Rattle.mr_types.specs.declared.row.Commit.{Commit}

abbrev pub given : Result Commit ℕ → Option Commit
given (Ok c) = Some c
given (Err left) = None

-- the commit that a body is, which consists of bytes
abbrev pub read_commit : List ℕ → Option Commit
read_commit body = if list_all is_byte body then given (reads_commit body) else None

-- a commit in front of the others, where there are some
abbrev pub in_front : Option Commit → Option (List Commit) → Option (List Commit)
in_front None others = None
in_front (Some c) None = None
in_front (Some c) (Some cs) = Some (c ∷ cs)

-- the commits of bodies, None where one of them is no commit
abbrev pub read_commits : List (List ℕ) → Option (List Commit)
read_commits [] = Some []
read_commits (body ∷ bodies) = in_front (read_commit body) (read_commits bodies)
