-- How many bytes of text the parts of a statement take at least.
use Rattle.std.specs.Prelude.{if◌then◌else◌, ℕ, ◌+◌, List, [], ◌∷◌, length, Option, Some, None}
use Rattle.mr_types.specs.declared.value.Value.{Value}
use Rattle.mr_types.specs.declared.value.Value.TheVariants.{Null, Number, Text, Bytes}
use Rattle.mr_types.specs.declared.expr.Expr.{Expr, fold-Expr}
use Rattle.mr_types.specs.declared.expr.Expr.TheOpen.{Expr-F, Compare, IsNull, Between, OneOf, Not, And, Or}
use Rattle.mr_types.specs.declared.text.ColumnText.{ColumnText}
use Rattle.mr_types.specs.declared.text.KeyText.{KeyText}
use Rattle.mr_types.specs.declared.text.TableText.{TableText}
use Rattle.mr_types.specs.declared.statement.ItemValue.{ItemValue}
use Rattle.mr_types.specs.declared.statement.ItemValue.TheVariants as items
use Rattle.mr_types.specs.declared.statement.Factor.{Factor}
use Rattle.mr_types.specs.declared.statement.Factor.TheVariants as factors
use Rattle.mr_types.specs.declared.statement.Term.{Term}
use Rattle.mr_types.specs.declared.statement.SetTo.{SetTo}
use Rattle.mr_types.specs.declared.statement.SetTo.TheVariants as sets
use Rattle.mr_types.specs.declared.statement.SetItem.{SetItem}
use Rattle.mr_types.specs.declared.statement.Aggregate.{Aggregate}
use Rattle.mr_types.specs.declared.statement.Aggregate.TheVariants as aggregates
use Rattle.mr_types.specs.declared.statement.Columns.{Columns}
use Rattle.mr_types.specs.declared.statement.Columns.TheVariants as columns
use Rattle.mr_types.specs.declared.statement.IndexName.{IndexName}
use Rattle.mr_types.specs.declared.statement.IndexName.TheVariants as indexes
use Rattle.mr_types.specs.declared.statement.Select.{Select}
use Rattle.mr_types.specs.declared.statement.Insert.{Insert}
use Rattle.mr_types.specs.declared.statement.KeyName.{KeyName}
use Rattle.mr_types.specs.declared.statement.Statement.{Statement}
use Rattle.mr_types.specs.declared.statement.Statement.TheVariants as statements

abbrev pub summed : {A : Type 0} → (A → ℕ) → List A → ℕ
summed size [] = 0
summed size (x ∷ xs) = size x + summed size xs

abbrev pub if_given : {A : Type 0} → (A → ℕ) → Option A → ℕ
if_given size None = 0
if_given size (Some x) = size x

abbrev pub name_size : List ℕ → ℕ
name_size name = length name

abbrev pub names_size : List (List ℕ) → ℕ
names_size names = summed name_size names

-- a literal has one byte besides those that it says
abbrev pub literal_size : Value → ℕ
literal_size Null = 1
literal_size (Number n) = 1
literal_size (Text text) = 1 + length text
literal_size (Bytes bytes) = 1 + length bytes

-- ---- conditions

-- one layer, whose parts have their sizes already
abbrev pub layer_size : Expr-F ℕ → ℕ
layer_size (Compare name cmp v) = length name + literal_size v
layer_size (IsNull name) = length name
layer_size (Between name a b) = length name + literal_size a + literal_size b
layer_size (OneOf name vs) = length name + summed literal_size vs
layer_size (Not part) = part
layer_size (And parts) = summed (λ n. n) parts
layer_size (Or parts) = summed (λ n. n) parts

abbrev pub condition_size : Expr → ℕ
condition_size e = fold-Expr ℕ layer_size e

-- ---- definitions

abbrev pub column_size : ColumnText → ℕ
column_size column = length column.name + if_given literal_size column.default

-- a primary key may stand as an attribute of its column, which then is not named again
abbrev pub key_columns_size : KeyText → ℕ
key_columns_size key = if key.primary then length key.columns else names_size key.columns

abbrev pub key_size : KeyText → ℕ
key_size key = length key.name + key_columns_size key + length key.comment

abbrev pub table_size : TableText → ℕ
table_size table = length table.name + summed column_size table.columns + summed key_size table.keys + length table.comment

-- ---- rows and assignments

abbrev pub item_size : ItemValue → ℕ
item_size items.Default = 1
item_size (items.Literal v) = literal_size v

abbrev pub insert_size : Insert → ℕ
insert_size insert = length insert.table + if_given names_size insert.columns + summed (summed item_size) insert.rows

abbrev pub factor_size : Factor → ℕ
factor_size (factors.Column name) = length name
factor_size (factors.Literal v) = literal_size v

abbrev pub term_size : Term → ℕ
term_size term = summed factor_size term.factors

abbrev pub set_to_size : SetTo → ℕ
set_to_size sets.Default = 1
set_to_size (sets.Sum terms) = summed term_size terms

abbrev pub set_size : SetItem → ℕ
set_size set = length set.column + set_to_size set.to

-- ---- SELECT

abbrev pub aggregate_size : Aggregate → ℕ
aggregate_size aggregates.Count = 1
aggregate_size (aggregates.Min name) = length name
aggregate_size (aggregates.Max name) = length name

abbrev pub columns_size : Columns → ℕ
columns_size columns.All = 1
columns_size (columns.Names names) = names_size names
columns_size (columns.Aggregates list) = summed aggregate_size list

abbrev pub index_size : IndexName → ℕ
index_size indexes.Primary = 1
index_size (indexes.Name name) = length name

abbrev pub select_size : Select → ℕ
select_size select = columns_size select.columns + length select.table + if_given index_size select.forced + if_given condition_size select.condition + summed (λ o. length o.column) select.order

-- ---- statements

abbrev pub key_name_size : KeyName → ℕ
key_name_size name = length name.table + length name.key

abbrev pub statement_size : Statement → ℕ
statement_size (statements.CreateTable text if_not_exists engine) = table_size text + if_given name_size engine
statement_size (statements.DropTable table if_exists) = length table
statement_size (statements.CreateIndex table key) = length table + key_size key
statement_size (statements.DropIndex name) = key_name_size name
statement_size (statements.BeginIndex table key) = length table + key_size key
statement_size (statements.FinishIndex name) = key_name_size name
statement_size (statements.CancelIndex name) = key_name_size name
statement_size (statements.Insert insert) = insert_size insert
statement_size (statements.Replace insert) = insert_size insert
statement_size (statements.Update table set condition) = length table + summed set_size set + if_given condition_size condition
statement_size (statements.Delete table condition) = length table + if_given condition_size condition
statement_size (statements.Select select) = select_size select
statement_size (statements.RollbackTo name) = length name
statement_size (statements.Savepoint name) = length name
statement_size (statements.Release name) = length name
statement_size (statements.Lock names) = names_size names
statement_size (statements.Session name) = length name
statement_size (statements.Begin snapshot) = 1
statement_size statements.Commit = 1
statement_size statements.Rollback = 1
statement_size statements.Unlock = 1
statement_size statements.Disconnect = 1
statement_size (statements.Work units) = 1
