-- How each statement is spelled, and which statements are.
use Rattle.std.specs.Prelude.{◌≡◌, Bool, true, ◌&&◌, nat_le, List, [], ◌∷◌, Option, codes}
use Rattle.std.specs.List.{list_all}
use Rattle.mr_types.specs.Grammatical.{is_statement, where_given}
use Rattle.mr_types.specs.declared.expr.Expr.{Expr}
use Rattle.mr_types.specs.declared.statement.Statement.{Statement}
use Rattle.mr_types.specs.declared.statement.Statement.TheVariants as statements
use Rattle.mr_spelling.specs.Parts.{Part, Keyword, Name, Count}
use Rattle.mr_spelling.specs.Spelling.{spelled_list}
use Rattle.mr_spelling.specs.Sessions.{spelled_index_on, spelled_new_index, spelled_if_exists, spelled_begin, spelled_lock}
use Rattle.mr_spelling.specs.Rows.{spelled_insert, spelled_set, is_plain_to}
use Rattle.mr_spelling.specs.Conditions.{nesting, spelled_where}
use Rattle.mr_spelling.specs.Selects.{spelled_select, is_limited}
use Rattle.mr_spelling.specs.Tables.{spelled_create_table}

abbrev pub spelled_statement : Statement → List Part
spelled_statement (statements.CreateTable text if_not_exists engine) = Keyword (codes "create") ∷ Keyword (codes "table") ∷ spelled_create_table text if_not_exists engine
spelled_statement (statements.DropTable table if_exists) = Keyword (codes "drop") ∷ Keyword (codes "table") ∷ spelled_if_exists if_exists (Name table ∷ [])
spelled_statement (statements.CreateIndex table key) = Keyword (codes "create") ∷ spelled_new_index table key
spelled_statement (statements.DropIndex at) = Keyword (codes "drop") ∷ spelled_index_on at
spelled_statement (statements.BeginIndex table key) = Keyword (codes "begin") ∷ spelled_new_index table key
spelled_statement (statements.FinishIndex at) = Keyword (codes "finish") ∷ spelled_index_on at
spelled_statement (statements.CancelIndex at) = Keyword (codes "cancel") ∷ spelled_index_on at
spelled_statement (statements.Insert insert) = Keyword (codes "insert") ∷ spelled_insert insert
spelled_statement (statements.Replace insert) = Keyword (codes "replace") ∷ spelled_insert insert
spelled_statement (statements.Update table set condition) = Keyword (codes "update") ∷ Name table ∷ Keyword (codes "set") ∷ spelled_list spelled_set set (spelled_where condition [])
spelled_statement (statements.Delete table condition) = Keyword (codes "delete") ∷ Keyword (codes "from") ∷ Name table ∷ spelled_where condition []
spelled_statement (statements.Select select) = Keyword (codes "select") ∷ spelled_select select
spelled_statement (statements.Begin snapshot) = spelled_begin snapshot
spelled_statement statements.Commit = Keyword (codes "commit") ∷ []
spelled_statement statements.Rollback = Keyword (codes "rollback") ∷ []
spelled_statement (statements.RollbackTo name) = Keyword (codes "rollback") ∷ Keyword (codes "to") ∷ Name name ∷ []
spelled_statement (statements.Savepoint name) = Keyword (codes "savepoint") ∷ Name name ∷ []
spelled_statement (statements.Release name) = Keyword (codes "release") ∷ Keyword (codes "savepoint") ∷ Name name ∷ []
spelled_statement (statements.Lock names) = Keyword (codes "lock") ∷ Keyword (codes "tables") ∷ spelled_list spelled_lock names []
spelled_statement statements.Unlock = Keyword (codes "unlock") ∷ Keyword (codes "tables") ∷ []
spelled_statement (statements.Session name) = Keyword (codes "session") ∷ Name name ∷ []
spelled_statement statements.Disconnect = Keyword (codes "disconnect") ∷ []
spelled_statement (statements.Work units) = Keyword (codes "work") ∷ Count units ∷ []

-- the grammar nests 64 NOTs and parentheses at most
abbrev pub is_nested : Option Expr → Bool
is_nested condition = where_given (λ e. nat_le (nesting e) 64) condition

-- what the grammar bounds besides: nesting, LIMIT, and the sign of a sum's first term, which none can have
abbrev pub is_bounded : Statement → Bool
is_bounded (statements.Update table set condition) = list_all (λ s. is_plain_to s.to) set && is_nested condition
is_bounded (statements.Delete table condition) = is_nested condition
is_bounded (statements.Select select) = is_nested select.condition && is_limited select.skip select.most
is_bounded _ = true

-- the statement has a spelling
pub record IsSpellable (s : Statement) : Type 0 where
  pub in_order : is_statement s ≡ true
  pub bounded : is_bounded s ≡ true
