-- A session's changes weigh the same in its view and in all commits.
use Rattle.std.proofs.Common.{◌≡◌, ℕ, ◌≤◌, false, List, ◌∷◌, length, take, drop, Option, subst, sym, ◌∙◌}
use Rattle.std.specs.List.{list_any}
use Rattle.mr_types.specs.declared.row.Commit.{Commit}
use Rattle.mr_spec.specs.declared.world.Session.{Session}
use Rattle.mr_spec.specs.declared.world.Txn.{Txn}
use Rattle.mr_spec.specs.Database.{replay, defines, changes_of}
use Rattle.mr_spec.specs.Weight.{total_weight}
use Rattle.mr_spec.specs.World.{World, view_of, changes_by, seen_by}
use Rattle.mr_sound.specs.Sound.{IsIn, IsSound}
use Rattle.mr_sound.proofs.Tables.{def_of, def-with, AgreeIn, IsFree, IsKept, agree-commits, same-defs, same-weight}
use Rattle.mr_sound.proofs.Writes.{all-commits}

-- the definition stays where none of the later commits makes or changes it
kept-def : (n : ℕ) (cs : List Commit) (name : List ℕ) → list_any (defines name) (drop n cs) ≡ false → def_of name (replay cs) ≡ def_of name (replay (take n cs))
kept-def n cs name kept =
    same-defs (IsKept (drop n cs)) (IsFree (changes_of (drop n cs))) (replay (take n cs)) (replay cs)
    (subst (λ x. AgreeIn (IsKept (drop n cs)) (IsFree (changes_of (drop n cs))) (replay (take n cs)) x) (all-commits n cs)
    (agree-commits (IsKept (drop n cs)) (changes_of (drop n cs)) (drop n cs) (replay (take n cs)) (λ d i. i) (λ m q. q))) name kept

pub view-def : (cs : List Commit) (txn : Option Txn) (name : List ℕ) → list_any (defines name) (drop (seen_by txn (length cs)) cs) ≡ false → def_of name (view_of cs txn) ≡ def_of name (replay cs)
view-def cs txn name kept = def-with name (changes_by txn) (replay (take (seen_by txn (length cs)) cs)) ∙ sym (kept-def (seen_by txn (length cs)) cs name kept)

pub view-weight : (w : World) (s : Session) → IsSound w → IsIn s (w.here ∷ w.others) → total_weight (view_of w.commits s.txn) (changes_by s.txn) ≡ total_weight (replay w.commits) (changes_by s.txn)
view-weight w s sound i = same-weight (replay w.commits) (view_of w.commits s.txn) (changes_by s.txn) (λ c j. view-def w.commits s.txn _ ((sound.sessions s i).kept c j))

pub view-light : (w : World) (s : Session) → IsSound w → IsIn s (w.here ∷ w.others) → total_weight (view_of w.commits s.txn) (changes_by s.txn) ≤ 67108864
view-light w s sound i = subst (λ n. n ≤ 67108864) (sym (view-weight w s sound i)) (sound.sessions s i).light
