-- A commit as the bytes of a binary log's body, and the commit that bytes are. Numbers are big-endian.
--   commit   moment u64, kind u8, and:
--   0        count u32, at least 1; changes
--   1        create table: the definition
--   2        drop table: its name
--   3        create index: the table's name, the key
--   4        drop index: the table's name, the key's name
--   change   u8: 1 insert, 2 update, 3 delete; the table's name; the new row, the old and the new, or the old
use Rattle.std.specs.Prelude.{ℕ, ◌==◌, if◌then◌else◌, List, [], ◌∷◌, ◌++◌, length, Result, Ok, Err}
use Rattle.byteorder.specs.Endian.{big_bytes}
use Rattle.mr_types.specs.declared.row.Change.{Change}
use Rattle.mr_types.specs.declared.row.Change.TheVariants.{Insert, Update, Delete}
use Rattle.mr_types.specs.declared.row.Schema.{Schema as SchemaChange}
use Rattle.mr_types.specs.declared.row.Schema.TheVariants.{CreateTable, DropTable, CreateIndex, DropIndex}
use Rattle.mr_types.specs.declared.row.CommitBody.{CommitBody}
use Rattle.mr_types.specs.declared.row.CommitBody.TheVariants.{Rows, Schema}
use Rattle.mr_types.specs.declared.row.Commit.{Commit}
use Rattle.mr_types.specs.Refusals.{◌>>=◌}
use Rattle.mr_spec.specs.RowForm.{row_bytes}
use Rattle.mr_fields.specs.Fields.{Read, number_in, name_bytes, name_in, listed_bytes, listed_in, read_whole}
use Rattle.mr_fields.specs.Rows.{row_in}
use Rattle.mr_schema.specs.DefinitionForm.{key_bytes, key_in, definition_bytes, definition_in}

-- ---- the bytes of a commit

abbrev pub change_bytes : Change → List ℕ
change_bytes (Insert table new) = 1 ∷ (name_bytes table ++ row_bytes new)
change_bytes (Update table old new) = 2 ∷ (name_bytes table ++ (row_bytes old ++ row_bytes new))
change_bytes (Delete table old) = 3 ∷ (name_bytes table ++ row_bytes old)

abbrev pub schema_bytes : SchemaChange → List ℕ
schema_bytes (CreateTable def) = 1 ∷ definition_bytes def
schema_bytes (DropTable table) = 2 ∷ name_bytes table
schema_bytes (CreateIndex table key) = 3 ∷ (name_bytes table ++ key_bytes key)
schema_bytes (DropIndex table key) = 4 ∷ (name_bytes table ++ name_bytes key)

abbrev pub body_bytes : CommitBody → List ℕ
body_bytes (Rows changes) = 0 ∷ (big_bytes 4 (length changes) ++ listed_bytes change_bytes changes)
body_bytes (Schema change) = schema_bytes change

abbrev pub commit_bytes : Commit → List ℕ
commit_bytes c = big_bytes 8 c.moment ++ body_bytes c.body

-- ---- changes of bytes

abbrev pub insert_in : List ℕ → Read Change
insert_in bytes = do
  table ← name_in bytes
  new ← row_in table.1
  Ok (Insert table.0 new.0, new.1)

abbrev pub update_in : List ℕ → Read Change
update_in bytes = do
  table ← name_in bytes
  old ← row_in table.1
  new ← row_in old.1
  Ok (Update table.0 old.0 new.0, new.1)

abbrev pub delete_in : List ℕ → Read Change
delete_in bytes = do
  table ← name_in bytes
  old ← row_in table.1
  Ok (Delete table.0 old.0, old.1)

abbrev pub change_in : List ℕ → Read Change
change_in [] = Err 0
change_in (mark ∷ bytes) =
    if mark == 1 then insert_in bytes
    else (if mark == 2 then update_in bytes
    else (if mark == 3 then delete_in bytes else Err (length (mark ∷ bytes))))

-- a count of at least 1
abbrev pub count_in : List ℕ → Read ℕ
count_in bytes = do
  count ← number_in 4 bytes
  if count.0 == 0 then Err (length bytes) else Ok count

-- ---- the commit of bytes

abbrev pub rows_in : List ℕ → Read CommitBody
rows_in bytes = do
  count ← count_in bytes
  changes ← listed_in change_in count.0 count.1
  Ok (Rows changes.0, changes.1)

abbrev pub create_table_in : List ℕ → Read CommitBody
create_table_in bytes = do
  def ← definition_in bytes
  Ok (Schema (CreateTable def.0), def.1)

abbrev pub drop_table_in : List ℕ → Read CommitBody
drop_table_in bytes = do
  table ← name_in bytes
  Ok (Schema (DropTable table.0), table.1)

-- how many columns the table has isn't told here, so each place is taken
abbrev pub create_index_in : List ℕ → Read CommitBody
create_index_in bytes = do
  table ← name_in bytes
  key ← key_in 256 table.1
  Ok (Schema (CreateIndex table.0 key.0), key.1)

abbrev pub drop_index_in : List ℕ → Read CommitBody
drop_index_in bytes = do
  table ← name_in bytes
  key ← name_in table.1
  Ok (Schema (DropIndex table.0 key.0), key.1)

abbrev pub body_in : List ℕ → Read CommitBody
body_in [] = Err 0
body_in (kind ∷ bytes) =
    if kind == 0 then rows_in bytes
    else (if kind == 1 then create_table_in bytes
    else (if kind == 2 then drop_table_in bytes
    else (if kind == 3 then create_index_in bytes
    else (if kind == 4 then drop_index_in bytes else Err (length (kind ∷ bytes))))))

abbrev pub commit_in : List ℕ → Read Commit
commit_in bytes = do
  moment ← number_in 8 bytes
  body ← body_in moment.1
  Ok (record { moment = moment.0; body = body.0 }, body.1)

-- the commit that the bytes are, or the first offending place
abbrev pub reads_commit : List ℕ → Result Commit ℕ
reads_commit bytes = read_whole commit_in bytes
