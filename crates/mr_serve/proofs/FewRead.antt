-- Commits that were read make tables of few columns.
use Rattle.std.proofs.Common.{◌≡◌, ℕ, List, [], ◌∷◌, Some, Ok, sym, subst}
use Rattle.mr_types.specs.declared.row.Commit.{Commit}
use Rattle.mr_binlog.specs.CommitForm.{reads_commit}
use Rattle.mr_schema.specs.Few.{FewInBody, FewColumns}
use Rattle.mr_commit_log.specs.LogCommits.{read_commits}
use Rattle.mr_commit_log.proofs.LogCommits.{commits_cons, read_ok}

pub few_read : ((bytes : List ℕ) (c : Commit) → reads_commit bytes ≡ Ok c → FewInBody c.body) → (bodies : List (List ℕ)) (commits : List Commit) → read_commits bodies ≡ Some commits → FewColumns commits
few_read law [] commits read = let none : [] ≡ commits = cc in subst FewColumns none tt
few_read law (body ∷ bodies) commits read =
    let x = commits_cons body bodies commits read in
    subst FewColumns (sym x.4) (law body x.0 (read_ok body x.0 x.2), few_read law bodies x.1 x.3)
