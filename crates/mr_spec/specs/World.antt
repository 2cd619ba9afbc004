-- The world: commits, sessions with their transactions, building indexes, hidden numbers, the moment.
use Rattle.std.specs.Prelude.{ℕ, Bool, false, not, if◌then◌else◌, List, [], ◌∷◌, ◌++◌, length, take, drop, filter, find, Option, Some, None, unwrap_or}
use Rattle.std.specs.List.{list_any, flat_map}
use Rattle.std.specs.Option.{option_map_or, option_map}
use Rattle.mr_spec.specs.declared.world.Session.{Session}
use Rattle.mr_spec.specs.declared.world.Table.{Table}
use Rattle.mr_spec.specs.declared.world.Txn.{Txn}
use Rattle.mr_types.specs.declared.definition.IndexDef.{IndexDef}
use Rattle.mr_types.specs.declared.row.Change.{Change}
use Rattle.mr_types.specs.declared.row.Commit.{Commit}
use Rattle.mr_types.specs.declared.row.CommitBody.{CommitBody}
use Rattle.mr_types.specs.declared.row.CommitBody.TheVariants as body
use Rattle.mr_types.specs.Values.{same_bytes, same_name}
use Rattle.mr_spec.specs.Database.{with_changes, replay, defines}

-- `here` is the current session, and `others` the other open ones. By a table's name: the index that is building, and the
-- next hidden number.
pub record World : Type 0 where
  pub commits : List Commit
  pub here : Session
  pub others : List Session
  pub building : List ℕ → Option IndexDef
  pub numbers : List ℕ → ℕ
  pub moment : ℕ

-- ---- what a session sees

-- the number of commits that a session sees
abbrev pub seen_by : Option Txn → ℕ → ℕ
seen_by None all = all
seen_by (Some t) all = unwrap_or t.snapshot all

-- a transaction's own changes
abbrev pub changes_by : Option Txn → List Change
changes_by None = []
changes_by (Some t) = t.changes

-- the tables as a session sees them: after these commits, then its own changes
abbrev pub view_of : List Commit → Option Txn → List Table
view_of commits txn = with_changes (replay (take (seen_by txn (length commits)) commits)) (changes_by txn)

-- the commits behind those that the current session sees
abbrev pub later_commits : World → List Commit
later_commits w = drop (seen_by w.here.txn (length w.commits)) w.commits

-- the definition was made or changed by one of them
abbrev pub is_stale : List ℕ → World → Bool
is_stale name w = list_any (defines name) (later_commits w)

-- the changes that sessions hold
abbrev pub held_changes : List Session → List Change
held_changes sessions = flat_map (λ s. changes_by s.txn) sessions

-- the session's transaction has used the table
abbrev pub has_used : List ℕ → Session → Bool
has_used name s = option_map_or (λ t. list_any (same_bytes name) t.used) s.txn false

-- ---- how a world changes

-- the current session with this transaction
abbrev pub with_txn : Option Txn → World → World
with_txn txn w = record w { here = record w.here { txn = txn } }

-- one commit more, at the world's moment
abbrev pub with_commit : CommitBody → World → World
with_commit b w = record w { commits = w.commits ++ record { moment = w.moment; body = b } ∷ [] }

-- a commit of these changes; no change is no commit
abbrev pub with_rows : List Change → World → World
with_rows [] w = w
with_rows (c ∷ cs) w = with_commit (body.Rows (c ∷ cs)) w

-- the current transaction, if there is one, committed
abbrev pub committed : World → World
committed w = with_txn None (with_rows (changes_by w.here.txn) w)

-- and rolled back
abbrev pub rolled_back : World → World
rolled_back w = with_txn None w

-- the changes of a statement: of the transaction, or a commit by themselves
abbrev pub kept_in : Option Txn → List Change → World → World
kept_in None changes w = with_rows changes w
kept_in (Some t) changes w = with_txn (Some (record t { changes = t.changes ++ changes })) w

-- the current session's
abbrev pub keeping : List Change → World → World
keeping changes w = kept_in w.here.txn changes w

-- a transaction that has used a table: its snapshot is fixed, at the latest, at this number of commits
abbrev pub using_table : List ℕ → ℕ → Txn → Txn
using_table name commits t = record t { snapshot = Some (unwrap_or t.snapshot commits); used = name ∷ t.used }

-- the current session has used the table
abbrev pub entered : List ℕ → World → World
entered name w = with_txn (option_map (using_table name (length w.commits)) w.here.txn) w

-- x for this name, and f for every other
abbrev pub at_name : {A : Type 0} → List ℕ → A → (List ℕ → A) → List ℕ → A
at_name name x f other = if same_bytes other name then x else f other

-- the table's next hidden number is n
abbrev pub with_number : List ℕ → ℕ → World → World
with_number name n w = record w { numbers = at_name name n w.numbers }

-- the table's building index is this one, or none
abbrev pub with_building : List ℕ → Option IndexDef → World → World
with_building name key w = record w { building = at_name name key w.building }

-- ---- sessions

-- the session's name, without regard to case
abbrev pub is_session : List ℕ → Session → Bool
is_session name s = same_name s.name name

-- a session that was just made
abbrev pub fresh : List ℕ → Session
fresh name = record { name = name; txn = None }

-- the session of this name among these becomes the current one, or a fresh one where there is none
abbrev pub turned_to : List ℕ → List Session → World → World
turned_to name sessions w = record w { here = unwrap_or (find (is_session name) sessions) (fresh name); others = filter (λ s. not (is_session name s)) sessions }
