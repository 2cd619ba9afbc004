-- One commit more in a list of records.
use Rattle.std.proofs.Common.{◌≡◌, ◌∙◌, ℕ, ◌+◌, List, [], ◌∷◌, ◌++◌, length, Option, Some, None, Result, Ok, Err, refl, sym, ap, arith}
use Rattle.mr_types.specs.declared.row.Commit.{Commit}
use Rattle.mr_gate.specs.Log.{span}
use Rattle.mr_binlog.specs.CommitForm.{reads_commit}
use Rattle.mr_binlog.specs.Commits.{in_front, placed_commits, HoldsOneMore}

-- what stands behind the first commit
split : (at : ℕ) (r : Result Commit ℕ) (rest : Option (List (ℕ × Commit))) (cs : List (ℕ × Commit)) → in_front at r rest ≡ Some cs → (c : Commit) × (ds : List (ℕ × Commit)) × (r ≡ Ok c) × (rest ≡ Some ds) × (cs ≡ (at, c) ∷ ds)
split at (Ok c) (Some ds) cs is = (c, ds, refl, refl, same is)
  where
    same : Some ((at, c) ∷ ds) ≡ Some cs → cs ≡ (at, c) ∷ ds
    same e = cc
split at (Ok c) None cs is = cc
split at (Err left) rest cs is = cc

pub one_more : (at : ℕ) (bodies : List (List ℕ)) (body : List ℕ) (cs : List (ℕ × Commit)) (c : Commit) → HoldsOneMore at bodies body cs c
one_more at [] body cs c is reads =
    let e : at + 0 ≡ at = omega arith in
    let none : cs ≡ [] = cc in
    rw (reads, none, e) refl
one_more at (first ∷ bodies) body cs c is reads =
    let parts = split at (reads_commit first) (placed_commits (at + (5 + length first)) bodies) cs is in
    let rest = one_more (at + (5 + length first)) bodies body parts.1 c parts.3 reads in
    let e : (at + (5 + length first)) + span bodies ≡ at + (5 + length first + span bodies) = omega arith in
    ap (λ r. in_front at r (placed_commits (at + (5 + length first)) (bodies ++ body ∷ []))) parts.2
    ∙ ap (in_front at (Ok parts.0)) rest
    ∙ ap (λ (n : ℕ). Some ((at, parts.0) ∷ (parts.1 ++ (n, c) ∷ []))) e
    ∙ ap (λ (ds : List (ℕ × Commit)). Some (ds ++ (at + (5 + length first + span bodies), c) ∷ [])) (sym parts.4)
