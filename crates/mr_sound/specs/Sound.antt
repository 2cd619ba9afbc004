-- Sound worlds: those whose commits are lawful, and stay so whatever a statement commits.
use Rattle.std.specs.Prelude.{◌≡◌, ◌≤◌, ◌<◌, ◌⊎◌, ℕ, true, false, List, [], ◌∷◌, length, take, drop, Some, None, Result, Ok, Err, ⊤}
use Rattle.std.specs.List.{list_any}
use Rattle.mr_spec.specs.declared.world.Session.{Session}
use Rattle.mr_spec.specs.declared.world.Table.{Table}
use Rattle.mr_types.specs.declared.definition.IndexDef.{IndexDef}
use Rattle.mr_types.specs.declared.definition.TableDef.{TableDef}
use Rattle.mr_types.specs.declared.row.Row.{Row}
use Rattle.mr_types.specs.declared.row.Change.{Change}
use Rattle.mr_types.specs.declared.row.Change.TheVariants.{Insert, Update, Delete}
use Rattle.mr_types.specs.declared.row.Commit.{Commit}
use Rattle.mr_spec.specs.declared.world.Txn.{Txn}
use Rattle.mr_types.specs.declared.statement.Statement.{Statement}
use Rattle.mr_types.specs.Grammatical.{is_statement}
use Rattle.mr_spec.specs.Rows.{same_primary, rows_of, table_name}
use Rattle.mr_spec.specs.Database.{table_of, replay, defines}
use Rattle.mr_spec.specs.Lawful.{IsLawful, IsCheckedKey, IfTable, are_lawful}
use Rattle.mr_spec.specs.Replay.{last_moment, numbers_after}
use Rattle.mr_spec.specs.Weight.{total_weight}
use Rattle.mr_spec.specs.World.{World, changes_by, seen_by, has_used}

-- x stands in the list
abbrev pub IsIn : {A : Type 0} → A → List A → Type 0
IsIn x [] = ⊥
IsIn x (y ∷ ys) = (y ≡ x) ⊎ IsIn x ys

-- no row of the one change has the primary key of a row of the other
abbrev pub AreApart : TableDef → Change → Change → Type 0
AreApart def c d = (r s : Row) → IsIn r (rows_of c) → IsIn s (rows_of d) → same_primary def r s ≡ false

-- the change has no primary key in common with those of its table among these
abbrev pub IsApartFrom : List Change → List Table → Change → Type 0
IsApartFrom ds tables c = (t : Table) (d : Change) → table_of (table_name c) tables ≡ Some t → IsIn d ds → table_name d ≡ table_name c → AreApart t.def c d

-- What a session holds could be committed now: its changes are lawful on the tables that it began from, and also on those of all
-- commits; they are not too heavy; it has used their tables, which keeps others from changing the definitions, and no commit that
-- it doesn't see has done so. It sees no more commits than there are, and has no changes before its snapshot is fixed.
pub record IsSoundSession (commits : List Commit) (moment : ℕ) (s : Session) : Type 0 where
  pub seen : are_lawful moment (replay (take (seen_by s.txn (length commits)) commits)) (changes_by s.txn) ≡ true
  pub lawful : are_lawful moment (replay commits) (changes_by s.txn) ≡ true
  pub light : total_weight (replay commits) (changes_by s.txn) ≤ 67108864
  pub used : (c : Change) → IsIn c (changes_by s.txn) → has_used (table_name c) s ≡ true
  pub kept : (c : Change) → IsIn c (changes_by s.txn) → list_any (defines (table_name c)) (drop (seen_by s.txn (length commits)) commits) ≡ false
  pub within : seen_by s.txn (length commits) ≤ length commits
  pub unfixed : (t : Txn) → s.txn ≡ Some t → t.snapshot ≡ None → t.changes ≡ []

-- no two of these sessions hold changes with a primary key in common
abbrev pub AreAllApart : List Table → List Session → Type 0
AreAllApart tables [] = ⊤
AreAllApart tables (s ∷ ss) = ((o : Session) (c : Change) → IsIn o ss → IsIn c (changes_by s.txn) → IsApartFrom (changes_by o.txn) tables c) × AreAllApart tables ss

-- The commits are lawful, and the moment isn't before the last one; each session could commit, in any order; and a building
-- index is a key that its table can be given.
pub record IsSound (w : World) : Type 0 where
  pub commits : IsLawful w.commits
  pub moment : last_moment 0 w.commits ≤ w.moment
  pub sessions : (s : Session) → IsIn s (w.here ∷ w.others) → IsSoundSession w.commits w.moment s
  pub apart : AreAllApart (replay w.commits) (w.here ∷ w.others)
  pub building : (name : List ℕ) (key : IndexDef) → w.building name ≡ Some key → IfTable name (replay w.commits) (λ t. IsCheckedKey t.def key)

-- the statement could be spelled by a text; a text that spells none is refused, and no premise is needed
abbrev pub IsSpelled : Result Statement ℕ → Type 0
IsSpelled (Ok s) = is_statement s ≡ true
IsSpelled (Err code) = ⊤

-- each of these
abbrev pub AreSpelled : List (Result Statement ℕ) → Type 0
AreSpelled ss = (s : Result Statement ℕ) → IsIn s ss → IsSpelled s

-- ---- hidden numbers

-- an inserted row's hidden number is below n
abbrev pub IsBelow : ℕ → Change → Type 0
IsBelow n (Insert table new) = (number : ℕ) → new.hidden ≡ Some number → number < n
IsBelow n (Update table old new) = ⊤
IsBelow n (Delete table old) = ⊤

-- each table's next hidden number is above those of its inserts, in the commits since the table was made and in what sessions hold
pub record AreNumbered (w : World) : Type 0 where
  pub commits : (name : List ℕ) → numbers_after (λ name. 1) w.commits name ≤ w.numbers name
  pub held : (s : Session) (c : Change) → IsIn s (w.here ∷ w.others) → IsIn c (changes_by s.txn) → IsBelow (w.numbers (table_name c)) c
