-- What follows from the definitions, as contracts say it.
use Rattle.std.specs.Prelude.{◌≡◌, ◌≤◌, ℕ, true, false, List, [], ◌∷◌, ◌++◌, length, Some, None, Result, Ok, Err, ⊤}
use Rattle.std.specs.List.{list_any}
use Rattle.mr_spec.specs.declared.world.Session.{Session}
use Rattle.mr_spec.specs.declared.world.Txn.{Txn}
use Rattle.mr_types.specs.declared.definition.IndexDef.{IndexDef}
use Rattle.mr_types.specs.declared.definition.TableDef.{TableDef}
use Rattle.mr_types.specs.declared.row.Row.{Row}
use Rattle.mr_types.specs.declared.row.Change.{Change}
use Rattle.mr_types.specs.declared.row.Commit.{Commit}
use Rattle.mr_types.specs.declared.statement.Statement.{Statement}
use Rattle.mr_types.specs.declared.statement.Statement.TheVariants as statement
use Rattle.mr_types.specs.Order.{IsSame}
use Rattle.mr_spec.specs.Rows.{kind_at, value_at, has_null, same_unique}
use Rattle.mr_spec.specs.Database.{on_table}
use Rattle.mr_spec.specs.Claims.{has_claim_in}
use Rattle.mr_spec.specs.World.{World, view_of, held_changes, has_used, entered, with_number, with_building, rolled_back}
use Rattle.mr_spec.specs.Outcome.{Outcome}
use Rattle.mr_spec.specs.Step.{step, begun, timed}
use Rattle.mr_spec.specs.ScriptRun.{world_after, is_refusal}

-- ---- a refused statement

-- what a refused statement leaves of a world: it as it was; or a table used and the snapshot fixed, perhaps with hidden
-- numbers drawn, perhaps with the transaction rolled back; or without a building index
pub data Left (w : World) : World → Type 0 where
  as_it_was : Left w w
  used : (name : List ℕ) → Left w (entered name w)
  drew : (name : List ℕ) (t : List ℕ) (n : ℕ) → Left w (with_number t n (entered name w))
  ended : (name : List ℕ) (t : List ℕ) (n : ℕ) → Left w (rolled_back (with_number t n (entered name w)))
  unbuilt : (t : List ℕ) → Left w (with_building t None w)
  built_in_vain : (t : List ℕ) (key : IndexDef) → Left w (with_building t None (with_building t (Some key) w))

-- an outcome that leaves no more where it is a refusal
abbrev pub Leaves : World → Outcome → Type 0
Leaves w o = is_refusal o.reply ≡ true → Left w o.world

-- the world in which a statement is judged: at its moment, and with an open transaction committed where it does so
abbrev pub judged_in : World → Result Statement ℕ → ℕ → World
judged_in w (Ok s) clock = begun s (timed w clock)
judged_in w (Err code) clock = timed w clock

-- A refused statement appends nothing but the session's open transaction, where it is one that commits it first, and leaves
-- the other sessions, and of the world what `Left` says.
pub record RefusalLeaves (w : World) (s : Result Statement ℕ) (clock : ℕ) : Type 0 where
  pub world : Left (judged_in w s clock) (step w s clock).world
  pub commits : (step w s clock).world.commits ≡ (judged_in w s clock).commits
  pub others : (step w s clock).world.others ≡ w.others

-- ---- commits and snapshots

-- these commits, and perhaps more behind them
pub record Extends (old new : List Commit) : Type 0 where
  pub more : List Commit
  pub is : new ≡ old ++ more

-- whatever a statement commits, a transaction whose snapshot is fixed sees the same tables
abbrev pub SnapshotStays : World → Result Statement ℕ → ℕ → Type 0
SnapshotStays w s clock = (t : Txn) (n : ℕ) → t.snapshot ≡ Some n → n ≤ length w.commits → view_of (world_after w s clock).commits (Some t) ≡ view_of w.commits (Some t)

-- ---- other sessions

-- the world with these other sessions
abbrev pub others_in : List Session → World → World
others_in os w = record w { others = os }

-- the outcome with them
abbrev pub moved : List Session → Outcome → Outcome
moved os o = record o { world = others_in os o.world }

-- they hold the same claims, and used the same tables, as far as a step asks
pub record SameOthers (old new : List Session) : Type 0 where
  pub held : (def : TableDef) (name : List ℕ) (c : Change) → has_claim_in def (on_table name (held_changes new)) c ≡ has_claim_in def (on_table name (held_changes old)) c
  pub used : (name : List ℕ) → list_any (has_used name) new ≡ list_any (has_used name) old

-- all statements but SESSION and DISCONNECT
abbrev pub IsOfOne : Statement → Type 0
IsOfOne (statement.Session name) = ⊥
IsOfOne statement.Disconnect = ⊥
IsOfOne _ = ⊤

-- ---- unique keys

-- the rows have the same values in these columns
abbrev pub SameIn : TableDef → Row → Row → List ℕ → Type 0
SameIn def r s [] = ⊤
SameIn def r s (i ∷ is) = IsSame (kind_at def i) (value_at r i) (value_at s i) × SameIn def r s is

-- two rows collide in a unique key where they have the same values there without NULL, and never by a NULL
pub record Collides (def : TableDef) (r s : Row) (key : IndexDef) : Type 0 where
  pub by_values : key.unique ≡ true → has_null r key.columns ≡ false → SameIn def r s key.columns → same_unique def r s key ≡ true
  pub never_by_null : has_null r key.columns ≡ true → same_unique def r s key ≡ false
