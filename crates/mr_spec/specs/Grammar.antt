-- The statement that a text spells. Each phrase is a function, so no text spells two.
use Rattle.std.specs.Prelude.{ℕ, Bool, if◌then◌else◌, nat_lt, List, length, Option, Some, None, Result, Err, codes}
use Rattle.std.specs.Option.{option_map}
use Rattle.mr_lex.specs.Reading.{Lexeme, Lexemes, tokens_of}
use Rattle.mr_types.specs.Refusals.{some_or}
use Rattle.mr_types.specs.declared.statement.Statement.{Statement}
use Rattle.mr_types.specs.declared.statement.Statement.TheVariants as statements
use Rattle.mr_spec.specs.Phrases.{Phrase, ◌>>=◌, ◌>>◌, ◌<$>◌, pure, refuse, eat, expect, ended, name}
use Rattle.mr_spec.specs.RowPhrases.{insert, update, delete}
use Rattle.mr_spec.specs.SelectPhrase.{select}
use Rattle.mr_spec.specs.TablePhrases.{create_table}
use Rattle.mr_spec.specs.SessionPhrases.{new_index, index_words, index_on, drop, begin, start, work_word, rollback, release, lock, work}

abbrev pub made_index : Option Bool → Phrase Statement
made_index (Some unique) = (λ at. statements.CreateIndex at.table at.key) <$> new_index unique
made_index None = refuse

-- create_table and create_index, behind CREATE
unfoldable pub create : Phrase Statement
create = do
  is_table ← eat (codes "table")
  if is_table then create_table else index_words >>= made_index

-- statements on rows, None where the first word is none of theirs
unfoldable pub row_statement : Phrase (Option Statement)
row_statement = do
  is_insert ← eat (codes "insert")
  if is_insert then (λ i. Some (statements.Insert i)) <$> insert else (do
    is_select ← eat (codes "select")
    if is_select then (λ s. Some (statements.Select s)) <$> select else (do
      is_update ← eat (codes "update")
      if is_update then Some <$> update else (do
        is_delete ← eat (codes "delete")
        if is_delete then Some <$> delete else (do
          is_replace ← eat (codes "replace")
          if is_replace then (λ i. Some (statements.Replace i)) <$> insert else pure None))))

-- statements on tables and indexes
unfoldable pub schema_statement : Phrase (Option Statement)
schema_statement = do
  is_create ← eat (codes "create")
  if is_create then Some <$> create else (do
    is_drop ← eat (codes "drop")
    if is_drop then Some <$> drop else (do
      is_finish ← eat (codes "finish")
      if is_finish then (λ k. Some (statements.FinishIndex k)) <$> index_on else (do
        is_cancel ← eat (codes "cancel")
        if is_cancel then (λ k. Some (statements.CancelIndex k)) <$> index_on else pure None)))

-- transactions; BEGIN INDEX begins as BEGIN does
unfoldable pub transaction : Phrase (Option Statement)
transaction = do
  is_begin ← eat (codes "begin")
  if is_begin then Some <$> begin else (do
    is_start ← eat (codes "start")
    if is_start then Some <$> start else (do
      is_commit ← eat (codes "commit")
      if is_commit then work_word >> pure (Some statements.Commit) else (do
        is_rollback ← eat (codes "rollback")
        if is_rollback then Some <$> rollback else (do
          is_savepoint ← eat (codes "savepoint")
          if is_savepoint then (λ n. Some (statements.Savepoint n)) <$> name else (do
            is_release ← eat (codes "release")
            if is_release then Some <$> release else pure None)))))

-- locks and sessions
unfoldable pub session_statement : Phrase Statement
session_statement = do
  is_lock ← eat (codes "lock")
  if is_lock then lock else (do
    is_unlock ← eat (codes "unlock")
    if is_unlock then expect (codes "tables") >> pure statements.Unlock else (do
      is_session ← eat (codes "session")
      if is_session then statements.Session <$> name else (do
        is_disconnect ← eat (codes "disconnect")
        if is_disconnect then pure statements.Disconnect else (do
          expect (codes "work")
          work))))

abbrev pub or_else : Option Statement → Phrase Statement → Phrase Statement
or_else (Some s) other = pure s
or_else None other = other

unfoldable pub transaction_or_session : Phrase Statement
transaction_or_session = do
  on_transaction ← transaction
  or_else on_transaction session_statement

unfoldable pub other_statement : Phrase Statement
other_statement = do
  on_schema ← schema_statement
  or_else on_schema transaction_or_session

unfoldable pub statement : Phrase Statement
statement = do
  on_rows ← row_statement
  or_else on_rows other_statement

-- nothing stands behind a statement
unfoldable pub whole_statement : Phrase Statement
whole_statement = do
  s ← statement
  ended
  pure s

-- no token is bad
abbrev pub spelled_by : List Lexeme → Option ℕ → Option Statement
spelled_by found None = option_map (λ p. p.0) (whole_statement found)
spelled_by found (Some bad) = None

abbrev pub spelled : Lexemes → Option Statement
spelled tokens = spelled_by tokens.found tokens.bad

-- the statement that a text spells, None where it spells none
unfoldable pub statement_of : List ℕ → Option Statement
statement_of text = spelled (tokens_of text)

-- the greatest length of a statement's text
abbrev pub longest_text : ℕ
longest_text = 1048576

-- 1153 where the text is too long, else 1064 where it spells no statement
abbrev pub parsed : List ℕ → Result Statement ℕ
parsed text = if nat_lt longest_text (length text) then Err 1153 else some_or 1064 (statement_of text)
