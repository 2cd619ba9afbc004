-- The commits of a binary log, record by record.
use Rattle.std.proofs.Common.{◌≡◌, ℕ, List, [], ◌∷◌, ◌++◌, Option, Some, None, Result, Ok, Err, refl, ap, sym, ◌∙◌, true, false, cond, Bool}
use Rattle.std.specs.List.{list_all}
use Rattle.mr_fields.specs.Fields.{is_byte, placed, whole_in}
use Rattle.mr_fields.proofs.FieldLaws.{whole_only}
use Rattle.mr_binlog.specs.CommitForm.{commit_bytes, commit_in, reads_commit}
use Rattle.mr_binlog.proofs.CommitLaws.{commit_only}
use Rattle.mr_types.specs.declared.row.Commit.{Commit}
use Rattle.mr_commit_log.specs.LogCommits.{given, read_commit, in_front, read_commits}

-- what stands in front, and behind
parts : (o : Option Commit) (others : Option (List Commit)) (commits : List Commit) → in_front o others ≡ Some commits → (c : Commit) × (cs : List Commit) × (o ≡ Some c) × (others ≡ Some cs) × (commits ≡ c ∷ cs)
parts None others commits e = cc
parts (Some c) None commits e = cc
parts (Some c) (Some cs) commits e = (c, cs, refl, refl, (let same : commits ≡ c ∷ cs = cc in same))

-- the first record, and the others
pub commits_cons : (body : List ℕ) (bodies : List (List ℕ)) (commits : List Commit) → read_commits (body ∷ bodies) ≡ Some commits
    → (c : Commit) × (cs : List Commit) × (read_commit body ≡ Some c) × (read_commits bodies ≡ Some cs) × (commits ≡ c ∷ cs)
commits_cons body bodies commits e = parts (read_commit body) (read_commits bodies) commits e

pub commits_both : (body : List ℕ) (bodies : List (List ℕ)) (c : Commit) (cs : List Commit) → read_commit body ≡ Some c → read_commits bodies ≡ Some cs → read_commits (body ∷ bodies) ≡ Some (c ∷ cs)
commits_both body bodies c cs first others = ap (λ o. in_front o (read_commits bodies)) first ∙ ap (in_front (Some c)) others

-- the records of two parts
pub commits_append : (a b : List (List ℕ)) (cs ds : List Commit) → read_commits a ≡ Some cs → read_commits b ≡ Some ds → read_commits (a ++ b) ≡ Some (cs ++ ds)
commits_append [] b cs ds first second = let none : [] ≡ cs = cc in second ∙ ap (λ y. Some (y ++ ds)) none
commits_append (body ∷ a) b cs ds first second =
    let x = commits_cons body a cs first in
    commits_both body (a ++ b) x.0 (x.1 ++ ds) x.2 (commits_append a b x.1 ds x.3 second) ∙ ap (λ y. Some (y ++ ds)) (sym x.4)

-- one more record
pub commits_push : (bodies : List (List ℕ)) (body : List ℕ) (commits : List Commit) (c : Commit) → read_commits bodies ≡ Some commits → read_commit body ≡ Some c → read_commits (bodies ++ body ∷ []) ≡ Some (commits ++ c ∷ [])
commits_push bodies body commits c first one = commits_append bodies (body ∷ []) commits (c ∷ []) first (commits_both body [] c [] one refl)

-- ---- bytes that are read

given_is : (bytes : List ℕ) (r : Result Commit ℕ) (c : Commit) → given (placed bytes r) ≡ Some c → r ≡ Ok c
given_is bytes (Ok x) c e = let same : x ≡ c = cc in ap (λ (y : Commit). Ok y) same
given_is bytes (Err place) c e = cc

read_where : (bytes : List ℕ) (c : Commit) (t : Bool) → list_all is_byte bytes ≡ t → cond t (given (reads_commit bytes)) None ≡ Some c → bytes ≡ commit_bytes c
read_where bytes c true all e = whole_only commit_bytes commit_in bytes c (commit_only bytes all) (given_is bytes (whole_in commit_in bytes) c e)
read_where bytes c false all e = cc

-- Bytes that are read as a commit are that commit's.
pub read_only : (bytes : List ℕ) (c : Commit) → read_commit bytes ≡ Some c → bytes ≡ commit_bytes c
read_only bytes c e = read_where bytes c (list_all is_byte bytes) refl e

-- bytes that are read as a commit
pub read_bytes : (bytes : List ℕ) (c : Commit) → list_all is_byte bytes ≡ true → reads_commit bytes ≡ Ok c → read_commit bytes ≡ Some c
read_bytes bytes c all read = ap (λ (t : Bool). cond t (given (reads_commit bytes)) None) all ∙ ap given read

given_ok : (r : Result Commit ℕ) (c : Commit) → given r ≡ Some c → r ≡ Ok c
given_ok (Ok x) c e = let same : x ≡ c = cc in ap (λ (y : Commit). Ok y) same
given_ok (Err place) c e = cc

read_ok_where : (bytes : List ℕ) (c : Commit) (t : Bool) → cond t (given (reads_commit bytes)) None ≡ Some c → reads_commit bytes ≡ Ok c
read_ok_where bytes c true e = given_ok (reads_commit bytes) c e
read_ok_where bytes c false e = cc

pub read_ok : (bytes : List ℕ) (c : Commit) → read_commit bytes ≡ Some c → reads_commit bytes ≡ Ok c
read_ok bytes c e = read_ok_where bytes c (list_all is_byte bytes) e
