-- A table after a change of a row, and with a key more or less.
use Rattle.std.specs.Prelude.{ℕ, not, if◌then◌else◌, List, [], ◌∷◌, ◌++◌, filter}
use Rattle.mr_types.specs.declared.definition.IndexDef.{IndexDef}
use Rattle.mr_spec.specs.declared.world.Table.{Table}
use Rattle.mr_types.specs.declared.row.Change.{Change}
use Rattle.mr_spec.specs.Database.{is_table}
use Rattle.mr_spec.specs.KeyChecks.{is_named}
use Rattle.mr_spec.specs.Rows.{rows_after, table_name}

-- after a change of a row, of this table or another
abbrev pub table_after : Change → Table → Table
table_after c t = if is_table (table_name c) t then record t { rows = rows_after t.def t.rows c } else t

-- with this key as the last one
abbrev pub table_with : Table → IndexDef → Table
table_with t key = record t { def = record t.def { secondary = t.def.secondary ++ key ∷ [] } }

-- without the key of this name
abbrev pub table_without : Table → List ℕ → Table
table_without t name = record t { def = record t.def { secondary = filter (λ k. not (is_named name k)) t.def.secondary } }

-- the tables but for those of this name
abbrev pub tables_without : List ℕ → List Table → List Table
tables_without name tables = filter (λ t. not (is_table name t)) tables
