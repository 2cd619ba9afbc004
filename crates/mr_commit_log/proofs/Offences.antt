-- The first offence among the bodies of a binary log.
use Rattle.std.proofs.Common.{◌≡◌, ℕ, ◌+◌, List, [], ◌∷◌, ◌++◌, Some, None, Err, ap, ◌∙◌, length, arith, refl}
use Rattle.mr_gate.specs.Log.{span}
use Rattle.mr_binlog.specs.CommitForm.{reads_commit}
use Rattle.mr_types.specs.declared.row.Commit.{Commit}
use Rattle.mr_commit_log.specs.LogCommits.{read_commits}
use Rattle.mr_commit_log.specs.Opening.{offence, offence_or}
use Rattle.mr_commit_log.proofs.LogCommits.{commits_cons, read_ok}

-- behind bodies that are commits, the others are judged
pub offence_on : (at : ℕ) (a b : List (List ℕ)) (cs : List Commit) → read_commits a ≡ Some cs → offence at (a ++ b) ≡ offence (at + span a) b
offence_on at [] b cs r = ap (λ n. offence n b) (let e : at ≡ at + 0 = omega arith in e)
offence_on at (body ∷ a) b cs r =
    let x = commits_cons body a cs r in
    ap (λ o. offence_or at o (offence (at + (5 + length body)) (a ++ b))) (read_ok body x.0 x.2)
    ∙ offence_on (at + (5 + length body)) a b x.1 x.3
    ∙ ap (λ n. offence n b) (let e : at + (5 + length body) + span a ≡ at + (5 + length body + span a) = omega arith in e)

-- bodies that are commits have no offence
pub none_offends : (at : ℕ) (bodies : List (List ℕ)) (cs : List Commit) → read_commits bodies ≡ Some cs → offence at bodies ≡ None
none_offends at [] cs r = refl
none_offends at (body ∷ bodies) cs r =
    let x = commits_cons body bodies cs r in
    ap (λ o. offence_or at o (offence (at + (5 + length body)) bodies)) (read_ok body x.0 x.2) ∙ none_offends (at + (5 + length body)) bodies x.1 x.3

-- a body that is none offends
pub offence_at : (bodies : List (List ℕ)) (body : List ℕ) (rest : List (List ℕ)) (cs : List Commit) (at place : ℕ) → read_commits bodies ≡ Some cs → at ≡ span bodies → reads_commit body ≡ Err place → offence 0 (bodies ++ body ∷ rest) ≡ Some (at + 5 + place)
offence_at bodies body rest cs at place r is wrong =
    offence_on 0 bodies (body ∷ rest) cs r
    ∙ ap (λ o. offence_or (0 + span bodies) o (offence (0 + span bodies + (5 + length body)) rest)) wrong
    ∙ ap Some (let e : 0 + span bodies + 5 + place ≡ at + 5 + place = omega (arith, is) in e)
