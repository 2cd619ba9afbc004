--   drop_table := DROP TABLE [IF EXISTS] name
--   create_index := CREATE [UNIQUE] INDEX name ON name ( names ) [COMMENT text]
--   drop_index := DROP INDEX name ON name
--   begin_index := BEGIN [UNIQUE] INDEX name ON name ( names ) [COMMENT text]
--   finish_index := FINISH INDEX name ON name
--   cancel_index := CANCEL INDEX name ON name
--   transaction := BEGIN [WORK] | START TRANSACTION [WITH CONSISTENT SNAPSHOT]
--            | COMMIT [WORK] | ROLLBACK [WORK] [TO [SAVEPOINT] name]
--            | SAVEPOINT name | RELEASE SAVEPOINT name
--   lock    := LOCK TABLES name (READ | WRITE) {, name (READ | WRITE)} | UNLOCK TABLES
--   session := SESSION name | DISCONNECT | WORK number
-- Each is given here behind its first keyword.
use Rattle.std.specs.Prelude.{ℕ, Bool, true, false, ◌&&◌, if◌then◌else◌, List, Option, Some, None, codes}
use Rattle.mr_types.specs.declared.statement.KeyName.{KeyName}
use Rattle.mr_types.specs.declared.statement.Statement.{Statement}
use Rattle.mr_types.specs.declared.statement.Statement.TheVariants as statements
use Rattle.mr_spec.specs.Phrases.{Phrase, ◌>>=◌, ◌>>◌, ◌<$>◌, pure, sees, behind, eat, maybe, expect, begins_name, name, names_in, number, listed}
use Rattle.mr_spec.specs.declared.drafts.TableKey.{TableKey}
use Rattle.mr_spec.specs.TablePhrases.{comment}

-- ---- keys by name

-- name ON name
unfoldable pub key_on : Phrase KeyName
key_on = do
  key ← name
  expect (codes "on")
  table ← name
  pure (record { table = table; key = key })

-- INDEX name ON name
unfoldable pub index_on : Phrase KeyName
index_on = expect (codes "index") >> key_on

-- name ON name ( names ) [COMMENT text]
unfoldable pub new_index : Bool → Phrase TableKey
new_index unique = do
  at ← key_on
  columns ← names_in
  about ← comment
  pure (record { table = at.table; key = record { name = at.key; primary = false; unique = unique; columns = columns; comment = about } })

-- [UNIQUE] INDEX, if one of them comes next: whether UNIQUE stands there, None where neither does
unfoldable pub index_words : Phrase (Option Bool)
index_words = do
  unique ← eat (codes "unique")
  if unique then expect (codes "index") >> pure (Some true) else (do
    found ← eat (codes "index")
    if found then pure (Some false) else pure None)

-- ---- tables

-- [IF EXISTS]
unfoldable pub if_exists : Phrase Bool
if_exists = do
  found ← eat (codes "if")
  if found then expect (codes "exists") >> pure true else pure false

unfoldable pub drop : Phrase Statement
drop = do
  is_table ← eat (codes "table")
  if is_table then (do mild ← if_exists; called ← name; pure (statements.DropTable called mild)) else statements.DropIndex <$> index_on

-- ---- transactions

-- [WORK]
abbrev pub work_word : Phrase Bool
work_word = maybe (codes "work")

abbrev pub begun : Option Bool → Phrase Statement
begun (Some unique) = (λ at. statements.BeginIndex at.table at.key) <$> new_index unique
begun None = work_word >> pure (statements.Begin false)

unfoldable pub begin : Phrase Statement
begin = index_words >>= begun

-- [WITH CONSISTENT SNAPSHOT]
unfoldable pub with_snapshot : Phrase Bool
with_snapshot = do
  found ← eat (codes "with")
  if found then expect (codes "consistent") >> expect (codes "snapshot") >> pure true else pure false

unfoldable pub start : Phrase Statement
start = expect (codes "transaction") >> statements.Begin <$> with_snapshot

-- SAVEPOINT is a keyword where a name follows, and else a name
unfoldable pub savepoint_name : Phrase (List ℕ)
savepoint_name = λ ts. if sees (codes "savepoint") ts && begins_name (behind ts) then name (behind ts) else name ts

unfoldable pub rollback : Phrase Statement
rollback = do
  work ← work_word
  is_part ← eat (codes "to")
  if is_part then statements.RollbackTo <$> savepoint_name else pure statements.Rollback

unfoldable pub release : Phrase Statement
release = expect (codes "savepoint") >> statements.Release <$> name

-- ---- locks

-- READ | WRITE
unfoldable pub lock_mode : Phrase (Unit {0})
lock_mode = do
  found ← eat (codes "read")
  if found then pure tt else expect (codes "write")

unfoldable pub locked_table : Phrase (List ℕ)
locked_table = do
  table ← name
  lock_mode
  pure table

unfoldable pub lock : Phrase Statement
lock = expect (codes "tables") >> statements.Lock <$> listed locked_table

-- ---- sessions

unfoldable pub work : Phrase Statement
work = statements.Work <$> number 0 1000000
