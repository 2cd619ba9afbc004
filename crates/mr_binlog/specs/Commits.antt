-- The commits of a binary log, with the places of their records.
use Rattle.std.specs.Prelude.{◌≡◌, ◌≤◌, ℕ, ◌+◌, List, [], ◌∷◌, ◌++◌, length, map, Option, Some, None, Result, Ok, Err, true}
use Rattle.std.specs.Option.{option_map}
use Rattle.std.specs.List.{list_all}
use Rattle.mr_base.specs.Disk.{Image}
use Rattle.mr_base.specs.declared.stop.Stop.{Stop}
use Rattle.mr_base.specs.declared.stop.Stop.TheVariants.{Damaged}
use Rattle.mr_types.specs.declared.row.Commit.{Commit}
use Rattle.mr_fields.specs.Fields.{is_byte}
use Rattle.mr_gate.specs.Log.{records_from, span}
use Rattle.mr_binlog.specs.CommitForm.{commit_bytes, reads_commit}

-- the commit that a body is, with its record's place, in front of the others
abbrev pub in_front : ℕ → Result Commit ℕ → Option (List (ℕ × Commit)) → Option (List (ℕ × Commit))
in_front at (Ok c) (Some cs) = Some ((at, c) ∷ cs)
in_front at (Ok c) None = None
in_front at (Err left) cs = None

-- the commits of the bodies of records, the first of which stands at this place; None where a body is no commit
abbrev pub placed_commits : ℕ → List (List ℕ) → Option (List (ℕ × Commit))
placed_commits at [] = Some []
placed_commits at (body ∷ bodies) = in_front at (reads_commit body) (placed_commits (at + (5 + length body)) bodies)

-- without the places
abbrev pub commits_in : List (List ℕ) → Option (List Commit)
commits_in bodies = option_map (λ cs. map (λ p. p.1) cs) (placed_commits 0 bodies)

-- the commits of an image: those of file 1, up to where its records end. Whether damage stands there is judged elsewhere.
abbrev pub commits_of : Image → Option (List Commit)
commits_of image = commits_in (records_from 0 (image 1))

-- What is next at a place: nothing, or a commit, whose record is read from there, and the place from which the others are read.
abbrev pub IsNextCommit : ℕ → List ℕ → Option (Commit × ℕ) → Type 0
IsNextCommit at file None = records_from at file ≡ []
IsNextCommit at file (Some r) = records_from at file ≡ commit_bytes r.0 ∷ records_from r.1 file

-- a commit that was read at a place: its bytes, which are bytes, are read as it, and their record ends at that other place
pub record IsRead (at : ℕ) (c : Commit) (next : ℕ) : Type 0 where
  pub bytes : list_all is_byte (commit_bytes c) ≡ true
  pub back : reads_commit (commit_bytes c) ≡ Ok c
  pub place : next ≡ at + (5 + length (commit_bytes c))

-- the body of the record at a place is no commit, and the stop tells where in the file its first offence stands
abbrev pub IsOffence : ℕ → List ℕ → Stop → Type 0
IsOffence at body stop = (place : ℕ) × (reads_commit body ≡ Err place) × (stop ≡ Damaged 1 (at + 5 + place))

-- it tells an offence in a body that ends at this end at most
abbrev pub SaysOffence : ℕ → ℕ → Stop → Type 0
SaysOffence at end stop = (body : List ℕ) × (at + 5 + length body ≤ end) × IsOffence at body stop

-- it tells the offence in the body of the record at a place
abbrev pub IsNoCommit : ℕ → List ℕ → Stop → Type 0
IsNoCommit at file stop = (body : List ℕ) × (next : ℕ) × (records_from at file ≡ body ∷ records_from next file) × IsOffence at body stop

-- One commit more: where records hold these commits, they and one whose body is this commit hold these and it, at the place where
-- the records end.
abbrev pub HoldsOneMore : ℕ → List (List ℕ) → List ℕ → List (ℕ × Commit) → Commit → Type 0
HoldsOneMore at bodies body cs c = placed_commits at bodies ≡ Some cs → reads_commit body ≡ Ok c → placed_commits at (bodies ++ body ∷ []) ≡ Some (cs ++ (at + span bodies, c) ∷ [])
