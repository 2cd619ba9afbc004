-- Statements that some text gives, as far as the engine relies on it.
use Rattle.std.specs.Prelude.{◌≡◌, ℕ, ◌≤◌, ◌-◌, ◌^◌, ℤ, pos, negsuc, Bool, true, false, not, ◌&&◌, nat_lt, nat_le, ◌==◌, if◌then◌else◌, List, [], ◌∷◌, length, Option, Some, None, is_none}
use Rattle.std.specs.List.{list_all}
use Rattle.mr_lanes.specs.Kernels.{is_low}
use Rattle.mr_types.specs.declared.value.Value.{Value}
use Rattle.mr_types.specs.declared.value.Value.TheVariants.{Null, Number, Text, Bytes}
use Rattle.mr_types.specs.declared.kind.KindText.{KindText}
use Rattle.mr_types.specs.declared.kind.KindText.TheVariants as kinds
use Rattle.mr_types.specs.declared.expr.Expr.{Expr, fold-Expr}
use Rattle.mr_types.specs.declared.expr.Expr.TheOpen.{Expr-F, Compare, IsNull, Between, OneOf, Not, And, Or}
use Rattle.mr_types.specs.declared.text.ColumnText.{ColumnText}
use Rattle.mr_types.specs.declared.text.KeyText.{KeyText}
use Rattle.mr_types.specs.declared.text.TableText.{TableText}
use Rattle.mr_types.specs.declared.statement.ItemValue.{ItemValue}
use Rattle.mr_types.specs.declared.statement.ItemValue.TheVariants as items
use Rattle.mr_types.specs.declared.statement.Factor.{Factor}
use Rattle.mr_types.specs.declared.statement.Factor.TheVariants as factors
use Rattle.mr_types.specs.declared.statement.Term.{Term}
use Rattle.mr_types.specs.declared.statement.SetTo.{SetTo}
use Rattle.mr_types.specs.declared.statement.SetTo.TheVariants as sets
use Rattle.mr_types.specs.declared.statement.SetItem.{SetItem}
use Rattle.mr_types.specs.declared.statement.Aggregate.{Aggregate}
use Rattle.mr_types.specs.declared.statement.Aggregate.TheVariants as aggregates
use Rattle.mr_types.specs.declared.statement.Columns.{Columns}
use Rattle.mr_types.specs.declared.statement.Columns.TheVariants as columns
use Rattle.mr_types.specs.declared.statement.IndexName.{IndexName}
use Rattle.mr_types.specs.declared.statement.IndexName.TheVariants as indexes
use Rattle.mr_types.specs.declared.statement.Select.{Select}
use Rattle.mr_types.specs.declared.statement.Insert.{Insert}
use Rattle.mr_types.specs.declared.statement.KeyName.{KeyName}
use Rattle.mr_types.specs.declared.statement.Statement.{Statement}
use Rattle.mr_types.specs.declared.statement.Statement.TheVariants as statements
use Rattle.mr_types.specs.Sizes.{statement_size}
use Rattle.mr_types.specs.Nesting.{nests_little}

-- ---- lists and options

-- not empty, and each part in order
abbrev pub some_all : {A : Type 0} → (A → Bool) → List A → Bool
some_all test [] = false
some_all test (x ∷ xs) = list_all test (x ∷ xs)

abbrev pub where_given : {A : Type 0} → (A → Bool) → Option A → Bool
where_given test None = true
where_given test (Some x) = test x

abbrev pub is_empty : {A : Type 0} → List A → Bool
is_empty [] = true
is_empty (x ∷ xs) = false

-- ---- names and literals

-- 1 to 64 bytes from 0x01 to 0x7F
abbrev pub is_name : List ℕ → Bool
is_name name = nat_lt 0 (length name) && (nat_le (length name) 64 && list_all (λ b. nat_lt 0 b && is_low b) name)

abbrev pub is_ascii_text : List ℕ → Bool
is_ascii_text text = list_all is_low text

-- a number's digits say at most 2^127 - 1
abbrev pub is_written : ℤ → Bool
is_written (pos n) = nat_lt n (2 ^ 127)
is_written (negsuc n) = nat_lt n (2 ^ 127 - 1)

abbrev pub is_literal : Value → Bool
is_literal Null = true
is_literal (Number n) = is_written n
is_literal (Text text) = is_ascii_text text
is_literal (Bytes bytes) = list_all (λ b. nat_lt b 256) bytes

-- ---- conditions

abbrev pub two_or_more : List Bool → Bool
two_or_more parts = nat_le 2 (length parts) && list_all (λ b. b) parts

-- one layer, whose parts are judged already
abbrev pub layer_is_grammatical : Expr-F Bool → Bool
layer_is_grammatical (Compare name cmp v) = is_name name && is_literal v
layer_is_grammatical (IsNull name) = is_name name
layer_is_grammatical (Between name a b) = is_name name && (is_literal a && is_literal b)
layer_is_grammatical (OneOf name vs) = is_name name && some_all is_literal vs
layer_is_grammatical (Not part) = part
layer_is_grammatical (And parts) = two_or_more parts
layer_is_grammatical (Or parts) = two_or_more parts

abbrev pub is_condition : Expr → Bool
is_condition e = fold-Expr Bool layer_is_grammatical e

-- ---- definitions

abbrev pub is_kind_text : KindText → Bool
is_kind_text (kinds.VarChar n collation) = nat_lt n (2 ^ 127)
is_kind_text (kinds.VarBinary n) = nat_lt n (2 ^ 127)
is_kind_text _ = true

abbrev pub is_column_text : ColumnText → Bool
is_column_text column = is_name column.name && (is_kind_text column.kind && where_given is_literal column.default)

-- a primary key is unique and has no name
abbrev pub is_key_name : KeyText → Bool
is_key_name key = if key.primary then is_empty key.name && key.unique else is_name key.name

abbrev pub is_key_text : KeyText → Bool
is_key_text key = is_key_name key && (some_all is_name key.columns && is_ascii_text key.comment)

abbrev pub is_table_text : TableText → Bool
is_table_text table = is_name table.name && (list_all is_column_text table.columns && (list_all is_key_text table.keys && (not (is_empty table.columns && is_empty table.keys) && is_ascii_text table.comment)))

abbrev pub is_secondary_text : KeyText → Bool
is_secondary_text key = not key.primary && is_key_text key

-- ---- rows and assignments

abbrev pub is_item : ItemValue → Bool
is_item items.Default = true
is_item (items.Literal v) = is_literal v

abbrev pub is_insert : Insert → Bool
is_insert insert = is_name insert.table && (where_given (some_all is_name) insert.columns && some_all (some_all is_item) insert.rows)

abbrev pub is_factor : Factor → Bool
is_factor (factors.Column name) = is_name name
is_factor (factors.Literal v) = is_literal v

abbrev pub is_term : Term → Bool
is_term term = some_all is_factor term.factors

abbrev pub is_set_to : SetTo → Bool
is_set_to sets.Default = true
is_set_to (sets.Sum terms) = some_all is_term terms

abbrev pub is_set : SetItem → Bool
is_set set = is_name set.column && is_set_to set.to

-- ---- SELECT

abbrev pub is_aggregate : Aggregate → Bool
is_aggregate aggregates.Count = true
is_aggregate (aggregates.Min name) = is_name name
is_aggregate (aggregates.Max name) = is_name name

abbrev pub is_list : Columns → Bool
is_list columns.All = true
is_list (columns.Names names) = some_all is_name names
is_list (columns.Aggregates list) = some_all is_aggregate list

abbrev pub is_index_name : IndexName → Bool
is_index_name indexes.Primary = true
is_index_name (indexes.Name name) = is_name name

-- an aggregate list has no ORDER BY and no LIMIT
abbrev pub is_ordered_well : Columns → Select → Bool
is_ordered_well (columns.Aggregates list) select = is_empty select.order && (is_none select.most && (select.skip == 0))
is_ordered_well _ select = list_all (λ o. is_name o.column) select.order

abbrev pub is_select : Select → Bool
is_select select = is_list select.columns && (is_name select.table && (where_given is_index_name select.forced && (where_given is_condition select.condition && is_ordered_well select.columns select)))

-- ---- statements

abbrev pub is_key_of_table : KeyName → Bool
is_key_of_table name = is_name name.table && is_name name.key

abbrev pub is_statement : Statement → Bool
is_statement (statements.CreateTable text if_not_exists engine) = is_table_text text && where_given (λ word. not (is_empty word) && is_ascii_text word) engine
is_statement (statements.DropTable table if_exists) = is_name table
is_statement (statements.CreateIndex table key) = is_name table && is_secondary_text key
is_statement (statements.DropIndex name) = is_key_of_table name
is_statement (statements.BeginIndex table key) = is_name table && is_secondary_text key
is_statement (statements.FinishIndex name) = is_key_of_table name
is_statement (statements.CancelIndex name) = is_key_of_table name
is_statement (statements.Insert insert) = is_insert insert
is_statement (statements.Replace insert) = is_insert insert
is_statement (statements.Update table set condition) = is_name table && (some_all is_set set && where_given is_condition condition)
is_statement (statements.Delete table condition) = is_name table && where_given is_condition condition
is_statement (statements.Select select) = is_select select
is_statement (statements.RollbackTo name) = is_name name
is_statement (statements.Savepoint name) = is_name name
is_statement (statements.Release name) = is_name name
is_statement (statements.Lock names) = some_all is_name names
is_statement (statements.Session name) = is_name name
is_statement (statements.Begin snapshot) = true
is_statement statements.Commit = true
is_statement statements.Rollback = true
is_statement statements.Unlock = true
is_statement statements.Disconnect = true
is_statement (statements.Work units) = nat_le units 1000000

-- in order, and its condition nests 64 NOTs and parentheses at most
abbrev pub is_grammatical : Statement → Bool
is_grammatical statement = nests_little statement && is_statement statement

-- a text has at most 1,048,576 bytes
pub record IsGrammatical (statement : Statement) : Type 0 where
  pub in_order : is_statement statement ≡ true
  pub not_deep : nests_little statement ≡ true
  pub not_long : statement_size statement ≤ 1048576
