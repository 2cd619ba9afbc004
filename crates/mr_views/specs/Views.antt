-- The tables of a view, and their rows, in steps.
use Rattle.std.specs.Prelude.{◌≡◌, ℕ, List, [], ◌∷◌, ◌++◌, fold, length, take, Option}
use Rattle.std.specs.Option.{option_map, option_map_or}
use Rattle.mr_types.specs.declared.definition.TableDef.{TableDef}
use Rattle.mr_types.specs.declared.row.Change.{Change}
use Rattle.mr_types.specs.declared.row.Commit.{Commit}
use Rattle.mr_types.specs.declared.row.Row.{Row}
use Rattle.mr_spec.specs.declared.world.Table.{Table}
use Rattle.mr_spec.specs.declared.world.Txn.{Txn}
use Rattle.mr_spec.specs.Database.{table_of, on_table, with_body, replay}
use Rattle.mr_spec.specs.Replay.{last_moment, numbers_after, numbers_by_body}
use Rattle.mr_spec.specs.RowSteps.{rows_seen}
use Rattle.mr_spec.specs.Rows.{rows_after}
use Rattle.mr_spec.specs.World.{World, seen_by, changes_by, view_of}

-- ---- one commit more

-- the tables, the next hidden numbers and the moment behind one commit more are those before it, with that commit folded in
pub record FoldsIn (commits : List Commit) (c : Commit) : Type 0 where
  pub tables : replay (commits ++ c ∷ []) ≡ with_body (replay commits) c.body
  pub numbers : (first : List ℕ → ℕ) → numbers_after first (commits ++ c ∷ []) ≡ numbers_by_body (numbers_after first commits) c.body
  pub moment : (first : ℕ) → last_moment first (commits ++ c ∷ []) ≡ c.moment

-- ---- a session's own changes

-- the rows behind these changes of their table
abbrev pub rows_behind : TableDef → List Row → List Change → List Row
rows_behind def rows changes = fold (rows_after def) rows changes

-- the table with these changes of it
abbrev pub table_behind : List Change → Table → Table
table_behind changes t = record t { rows = rows_behind t.def t.rows changes }

-- the committed table that a session sees, before its own changes
abbrev pub table_seen : List ℕ → List Commit → Option Txn → Option Table
table_seen name commits txn = table_of name (replay (take (seen_by txn (length commits)) commits))

-- a session's table is the committed one that it sees, with its own changes of that table folded in
abbrev pub TableByChanges : List ℕ → List Commit → Option Txn → Type 0
TableByChanges name commits txn = table_of name (view_of commits txn) ≡ option_map (table_behind (on_table name (changes_by txn))) (table_seen name commits txn)

-- and so are its rows, of which there are none where the table isn't there
abbrev pub RowsByChanges : List ℕ → World → Type 0
RowsByChanges name w = rows_seen name w ≡ option_map_or (λ t. rows_behind t.def t.rows (on_table name (changes_by w.here.txn))) (table_seen name w.commits w.here.txn) []
