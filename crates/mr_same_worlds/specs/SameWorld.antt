-- Worlds that no reply tells apart.
use Rattle.std.specs.Prelude.{◌≡◌, ℕ, List, [], ◌∷◌, map, Option, Some, None, Result, Ok, ⊤}
use Rattle.std.specs.List.{list_any}
use Rattle.mr_types.specs.declared.definition.IndexDef.{IndexDef}
use Rattle.mr_types.specs.declared.row.Commit.{Commit}
use Rattle.mr_types.specs.declared.statement.Statement.{Statement}
use Rattle.mr_types.specs.Values.{same_bytes}
use Rattle.mr_spec.specs.declared.world.Session.{Session}
use Rattle.mr_spec.specs.declared.world.Table.{Table}
use Rattle.mr_spec.specs.declared.world.Txn.{Txn}
use Rattle.mr_spec.specs.Database.{table_of, replay}
use Rattle.mr_spec.specs.Outcome.{Outcome}
use Rattle.mr_spec.specs.World.{World}

-- the same names, in any order, however often
abbrev pub SameNames : List (List ℕ) → List (List ℕ) → Type 0
SameNames old new = (name : List ℕ) → list_any (same_bytes name) new ≡ list_any (same_bytes name) old

-- the same transaction, but for how often and in which order it has used its tables
pub record SameTxn (old new : Txn) : Type 0 where
  pub snapshot : new.snapshot ≡ old.snapshot
  pub changes : new.changes ≡ old.changes
  pub savepoints : new.savepoints ≡ old.savepoints
  pub used : SameNames old.used new.used

-- both times the same transaction, or none
abbrev pub SameOpen : Option Txn → Option Txn → Type 0
SameOpen None None = ⊤
SameOpen (Some old) (Some new) = SameTxn old new
SameOpen _ _ = ⊥

-- sessions are the same by their transactions; their names don't count
abbrev pub SameSession : Session → Session → Type 0
SameSession old new = SameOpen old.txn new.txn

-- one after the other
abbrev pub SameSessions : List Session → List Session → Type 0
SameSessions [] [] = ⊤
SameSessions (s ∷ ss) (u ∷ us) = SameSession s u × SameSessions ss us
SameSessions _ _ = ⊥

-- Worlds with the same commits and moment, the same next hidden number and building key of each table that is there, and the
-- same sessions.
pub record SameWorld (old new : World) : Type 0 where
  pub commits : new.commits ≡ old.commits
  pub moment : new.moment ≡ old.moment
  pub numbers : (name : List ℕ) (t : Table) → table_of name (replay old.commits) ≡ Some t → new.numbers name ≡ old.numbers name
  pub building : (name : List ℕ) (t : Table) → table_of name (replay old.commits) ≡ Some t → new.building name ≡ old.building name
  pub here : SameSession old.here new.here
  pub others : SameSessions old.others new.others

-- outcomes with the same reply, and the same world again
pub record SameOutcome (old new : Outcome) : Type 0 where
  pub reply : new.reply ≡ old.reply
  pub world : SameWorld old.world new.world

-- a table that isn't there begins with the first hidden number, and builds no key
pub record AreTidy (commits : List Commit) (numbers : List ℕ → ℕ) (building : List ℕ → Option IndexDef) : Type 0 where
  pub number : (name : List ℕ) → table_of name (replay commits) ≡ None → numbers name ≡ 1
  pub key : (name : List ℕ) → table_of name (replay commits) ≡ None → building name ≡ None

abbrev pub IsTidy : World → Type 0
IsTidy w = AreTidy w.commits w.numbers w.building

-- texts that were read as these statements
abbrev pub all_read : List Statement → List (Result Statement ℕ)
all_read ss = map (λ s. Ok s) ss
