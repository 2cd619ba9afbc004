-- Tables as lists of rows, and what commits make of them.
use Rattle.std.specs.Prelude.{ℕ, Bool, false, not, if◌then◌else◌, List, [], ◌∷◌, ◌++◌, map, filter, find, Option}
use Rattle.mr_spec.specs.declared.world.Table.{Table}
use Rattle.mr_types.specs.declared.row.Change.{Change}
use Rattle.mr_types.specs.declared.row.Schema.{Schema}
use Rattle.mr_types.specs.declared.row.Schema.TheVariants.{CreateTable, DropTable, CreateIndex, DropIndex}
use Rattle.mr_types.specs.declared.row.CommitBody.{CommitBody}
use Rattle.mr_types.specs.declared.row.CommitBody.TheVariants as body
use Rattle.mr_types.specs.declared.row.Commit.{Commit}
use Rattle.mr_types.specs.Values.{same_bytes}
use Rattle.mr_spec.specs.Rows.{rows_after, table_name}
use Rattle.mr_spec.specs.KeyChecks.{is_named}

-- the table's name, byte for byte
abbrev pub is_table : List ℕ → Table → Bool
is_table name t = same_bytes t.def.name name

-- the table of this name
abbrev pub table_of : List ℕ → List Table → Option Table
table_of name tables = find (is_table name) tables

-- the tables, with the one of this name made anew
abbrev pub at_table : List ℕ → (Table → Table) → List Table → List Table
at_table name f tables = map (λ t. if is_table name t then f t else t) tables

-- the tables after a change of one row
abbrev pub changed : List Table → Change → List Table
changed tables c = at_table (table_name c) (λ t. record t { rows = rows_after t.def t.rows c }) tables

-- the tables after these changes
abbrev pub with_changes : List Table → List Change → List Table
with_changes tables [] = tables
with_changes tables (c ∷ cs) = with_changes (changed tables c) cs

-- the tables after a change of the schema
abbrev pub with_schema : List Table → Schema → List Table
with_schema tables (CreateTable def) = tables ++ record { def = def; rows = [] } ∷ []
with_schema tables (DropTable name) = filter (λ t. not (is_table name t)) tables
with_schema tables (CreateIndex name key) = at_table name (λ t. record t { def = record t.def { secondary = t.def.secondary ++ key ∷ [] } }) tables
with_schema tables (DropIndex name key) = at_table name (λ t. record t { def = record t.def { secondary = filter (λ k. not (is_named key k)) t.def.secondary } }) tables

-- the tables after what a commit has changed
abbrev pub with_body : List Table → CommitBody → List Table
with_body tables (body.Rows changes) = with_changes tables changes
with_body tables (body.Schema schema) = with_schema tables schema

-- the tables after these commits
abbrev pub with_commits : List Table → List Commit → List Table
with_commits tables [] = tables
with_commits tables (c ∷ cs) = with_commits (with_body tables c.body) cs

-- the tables that these commits make of none
abbrev pub replay : List Commit → List Table
replay commits = with_commits [] commits

-- ---- what commits say of one table

-- the table that a change of the schema is of
abbrev pub schema_table : Schema → List ℕ
schema_table (CreateTable def) = def.name
schema_table (DropTable name) = name
schema_table (CreateIndex name key) = name
schema_table (DropIndex name key) = name

-- whether a commit makes or changes the definition of the table
abbrev pub defines : List ℕ → Commit → Bool
defines name c = defines_by c.body
  where
    defines_by : CommitBody → Bool
    defines_by (body.Rows changes) = false
    defines_by (body.Schema schema) = same_bytes (schema_table schema) name

-- the changes of rows in a commit
abbrev pub changes_in : CommitBody → List Change
changes_in (body.Rows changes) = changes
changes_in (body.Schema schema) = []

-- all changes of these commits
abbrev pub changes_of : List Commit → List Change
changes_of [] = []
changes_of (c ∷ cs) = changes_in c.body ++ changes_of cs

-- the changes of a table
abbrev pub on_table : List ℕ → List Change → List Change
on_table name changes = filter (λ c. same_bytes (table_name c) name) changes
