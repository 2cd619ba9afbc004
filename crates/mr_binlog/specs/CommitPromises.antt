-- What holds of the bytes of commits.
use Rattle.std.specs.Prelude.{◌≡◌, ℕ, List, [], ◌++◌}
use Rattle.mr_types.specs.declared.row.Commit.{Commit}
use Rattle.mr_binlog.specs.CommitForm.{commit_bytes}
use Rattle.mr_binlog.specs.CommitFitting.{CommitFits}

-- no commit's bytes are a proper front of another's, and the bytes tell the commit
abbrev pub NoFront : Commit → Commit → List ℕ → Type 0
NoFront c d rest = CommitFits c → CommitFits d → commit_bytes c ++ rest ≡ commit_bytes d → (c ≡ d) × (rest ≡ [])
