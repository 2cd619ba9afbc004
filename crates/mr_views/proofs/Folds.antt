-- One commit more.
use Rattle.std.proofs.Common.{◌≡◌, ℕ, List, [], ◌∷◌, ◌++◌, refl}
use Rattle.mr_types.specs.declared.row.Commit.{Commit}
use Rattle.mr_spec.specs.declared.world.Table.{Table}
use Rattle.mr_spec.specs.Database.{with_body, with_commits}
use Rattle.mr_spec.specs.Replay.{last_moment, numbers_after, numbers_by_body}
use Rattle.mr_views.specs.Views.{FoldsIn}

pub commits-append : (ts : List Table) (cs ds : List Commit) → with_commits ts (cs ++ ds) ≡ with_commits (with_commits ts cs) ds
commits-append ts [] ds = refl
commits-append ts (c ∷ cs) ds = commits-append (with_body ts c.body) cs ds

pub numbers-append : (f : List ℕ → ℕ) (cs ds : List Commit) → numbers_after f (cs ++ ds) ≡ numbers_after (numbers_after f cs) ds
numbers-append f [] ds = refl
numbers-append f (c ∷ cs) ds = numbers-append (numbers_by_body f c.body) cs ds

last-of : (m : ℕ) (cs : List Commit) (c : Commit) → last_moment m (cs ++ c ∷ []) ≡ c.moment
last-of m [] c = refl
last-of m (d ∷ cs) c = last-of d.moment cs c

pub folds-in : (commits : List Commit) (c : Commit) → FoldsIn commits c
folds-in commits c = record {
  tables = commits-append [] commits (c ∷ []);
  numbers = λ first. numbers-append first commits (c ∷ []);
  moment = λ first. last-of first commits c;
}
