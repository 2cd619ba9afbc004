-- The rows of tables are rows of them.
use Rattle.std.proofs.Common.{◌≡◌, ℕ, true, List, [], ◌∷◌, length, take, Some}
use Rattle.mr_types.specs.declared.row.Commit.{Commit}
use Rattle.mr_types.specs.declared.row.Row.{Row}
use Rattle.mr_spec.specs.declared.world.Session.{Session}
use Rattle.mr_spec.specs.declared.world.Table.{Table}
use Rattle.mr_spec.specs.Database.{table_of, replay}
use Rattle.mr_spec.specs.Lawful.{IsLawful, is_row_of}
use Rattle.mr_spec.specs.World.{World, changes_by, seen_by, view_of}
use Rattle.mr_sound.specs.Sound.{IsIn, IsSound}
use Rattle.mr_sound.proofs.Commits.{lawful-take}
use Rattle.mr_sound.proofs.Well.{well-with, well-commits, well-none}

pub lawful-rows : (commits : List Commit) (name : List ℕ) (t : Table) (r : Row) → IsLawful commits → table_of name (replay commits) ≡ Some t → IsIn r t.rows → is_row_of t.def r ≡ true
lawful-rows commits name t r l e i = (well-commits 0 commits [] well-none l name t e).good.each r i

pub seen-rows : (w : World) (s : Session) (name : List ℕ) (t : Table) (r : Row) → IsSound w → IsIn s (w.here ∷ w.others) → table_of name (view_of w.commits s.txn) ≡ Some t → IsIn r t.rows → is_row_of t.def r ≡ true
seen-rows w s name t r sound i e j =
    let n = seen_by s.txn (length w.commits) in
    (well-with w.moment (changes_by s.txn) (replay (take n w.commits)) (well-commits 0 (take n w.commits) [] well-none (lawful-take n 0 [] w.commits sound.commits)) (sound.sessions s i).seen name t e).good.each r j
