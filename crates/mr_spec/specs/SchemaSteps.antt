-- Statements on definitions. An open transaction of the session is committed before them.
use Rattle.std.specs.Prelude.{ℕ, Bool, false, not, ◌||◌, if◌then◌else◌, List, [], ◌∷◌, Option, Some, None, is_some, is_none, Result, Ok, Err, ⊤, codes}
use Rattle.std.specs.List.{list_any}
use Rattle.std.specs.Prelude.{find}
use Rattle.std.specs.Option.{option_map_or}
use Rattle.mr_spec.specs.declared.world.Table.{Table}
use Rattle.mr_types.specs.declared.definition.IndexDef.{IndexDef}
use Rattle.mr_types.specs.declared.definition.TableDef.{TableDef}
use Rattle.mr_types.specs.declared.text.KeyText.{KeyText}
use Rattle.mr_types.specs.declared.text.TableText.{TableText}
use Rattle.mr_types.specs.declared.row.Row.{Row}
use Rattle.mr_types.specs.declared.row.Schema.{Schema}
use Rattle.mr_types.specs.declared.row.Schema.TheVariants as schema
use Rattle.mr_types.specs.declared.row.CommitBody.TheVariants as body
use Rattle.mr_types.specs.declared.statement.KeyName.{KeyName}
use Rattle.mr_types.specs.Refusals.{◌>>=◌, ◌>>◌, refuse_where, some_or, each}
use Rattle.mr_types.specs.Values.{same_name}
use Rattle.mr_spec.specs.Rows.{visible, same_unique}
use Rattle.mr_spec.specs.KeyChecks.{is_named}
use Rattle.mr_spec.specs.Checks.{check, check_key}
use Rattle.mr_spec.specs.Database.{table_of, replay}
use Rattle.mr_spec.specs.World.{World, has_used, with_commit, with_number, with_building}
use Rattle.mr_spec.specs.Outcome.{Outcome, refused, done}

-- the committed table of this name, else 1146
abbrev pub table_in : World → List ℕ → Result Table ℕ
table_in w name = some_or 1146 (table_of name (replay w.commits))

-- another open session has used the table
abbrev pub used_elsewhere : World → List ℕ → Bool
used_elsewhere w name = list_any (has_used name) w.others

-- a commit of this change of the schema
abbrev pub with_schema_change : Schema → World → World
with_schema_change s w = with_commit (body.Schema s) w

-- ---- CREATE TABLE and DROP TABLE

-- ROCKSDB, without regard to case
abbrev pub is_engine : List ℕ → Bool
is_engine word = same_name word (codes "ROCKSDB")

-- a table is made of this text, where the checks pass
abbrev pub created : World → TableText → Result Outcome ℕ
created w text = do
  def ← check text
  Ok (done (with_schema_change (schema.CreateTable def) w) 0)

-- CREATE TABLE: 1286; 1050, or done with IF NOT EXISTS; the checks
abbrev pub create_table : World → TableText → Bool → Option (List ℕ) → Result Outcome ℕ
create_table w text if_not_exists engine = do
  refuse_where 1286 (option_map_or (λ e. not (is_engine e)) engine false)
  if is_none (table_of text.name (replay w.commits)) then created w text
      else (if if_not_exists then Ok (done w 0) else Err 1050)

-- a table that is there is dropped: 1205 where it is used elsewhere or has a building index. Its hidden numbers begin anew.
abbrev pub dropped : World → List ℕ → Result Outcome ℕ
dropped w table = do
  refuse_where 1205 (used_elsewhere w table || is_some (w.building table))
  Ok (done (with_number table 1 (with_schema_change (schema.DropTable table) w)) 0)

-- DROP TABLE: 1051, or done with IF EXISTS; 1205
abbrev pub drop_table : World → List ℕ → Bool → Result Outcome ℕ
drop_table w table if_exists =
    if is_some (table_of table (replay w.commits)) then dropped w table
    else (if if_exists then Ok (done w 0) else Err 1051)

-- ---- keys

-- the table has a building index of another name
abbrev pub builds_other : World → List ℕ → List ℕ → Bool
builds_other w table key = option_map_or (λ k. not (is_named key k)) (w.building table) false

-- 1205 where the table is used elsewhere or has a building index of another name
abbrev pub free_for_key : World → List ℕ → List ℕ → Result ⊤ ℕ
free_for_key w table key = refuse_where 1205 (used_elsewhere w table || builds_other w table key)

-- the name of a building index is taken too
abbrev pub building_names : World → List ℕ → List (List ℕ)
building_names w table = option_map_or (λ k. k.name ∷ []) (w.building table) []

-- the world with an index begun: 1146, the checks of the key, 1205
abbrev pub with_begun : World → List ℕ → KeyText → Result World ℕ
with_begun w table text = do
  t ← table_in w table
  key ← check_key t.def (building_names w table) text
  free_for_key w table text.name
  Ok (with_building table (Some key) w)

-- BEGIN INDEX commits nothing
abbrev pub begin_index : World → List ℕ → KeyText → Result Outcome ℕ
begin_index w table text = do
  u ← with_begun w table text
  Ok (done u 0)

-- the building index, where it has this name
abbrev pub building_key : World → KeyName → Option IndexDef
building_key w n = option_map_or (λ k. if is_named n.key k then Some k else None) (w.building n.table) None

-- two rows have the same values, without NULL, in a unique key
abbrev pub has_duplicate : TableDef → IndexDef → List Row → Bool
has_duplicate def key [] = false
has_duplicate def key (r ∷ rs) = list_any (λ s. same_unique def r s key) rs || has_duplicate def key rs

-- the key is committed, or 1062 where two visible rows have the same values in it
abbrev pub published : World → Table → IndexDef → Outcome
published w t key =
    if has_duplicate t.def key (visible t.def w.moment t.rows) then refused w 1062
    else done (with_schema_change (schema.CreateIndex t.def.name key) w) 0

-- FINISH INDEX: 1146, 1176, 1205, 1062. The building index is gone, also behind 1062.
abbrev pub finish_index : World → KeyName → Result Outcome ℕ
finish_index w n = do
  t ← table_in w n.table
  key ← some_or 1176 (building_key w n)
  free_for_key w n.table n.key
  Ok (published (with_building n.table None w) t key)

-- CANCEL INDEX: 1146, 1176
abbrev pub cancel_index : World → KeyName → Result Outcome ℕ
cancel_index w n = do
  t ← table_in w n.table
  key ← some_or 1176 (building_key w n)
  Ok (done (with_building n.table None w) 0)

-- CREATE INDEX is BEGIN INDEX and then FINISH INDEX, with one reply
abbrev pub create_index : World → List ℕ → KeyText → Result Outcome ℕ
create_index w table text = do
  u ← with_begun w table text
  finish_index u (record { table = table; key = text.name })

-- DROP INDEX: 1146, 1091, 1205. The commit has the name that the definition has.
abbrev pub drop_index : World → KeyName → Result Outcome ℕ
drop_index w n = do
  t ← table_in w n.table
  key ← some_or 1091 (find (is_named n.key) t.def.secondary)
  free_for_key w n.table n.key
  Ok (done (with_schema_change (schema.DropIndex t.def.name key.name) w) 0)

-- ---- LOCK TABLES

-- LOCK TABLES: 1146, else nothing
abbrev pub lock_tables : World → List (List ℕ) → Result Outcome ℕ
lock_tables w names = do
  each (table_in w) names
  Ok (done w 0)
