-- Statements as values, for the worked rows.
use Rattle.std.proofs.Common.{ℕ, pos, Bool, true, false, List, [], ◌∷◌, Option, Some, None, Result, Ok, map}
use Rattle.mr_types.specs.declared.value.Value.{Value}
use Rattle.mr_types.specs.declared.value.Value.TheVariants.{Number}
use Rattle.mr_types.specs.declared.kind.KindText.{KindText}
use Rattle.mr_types.specs.declared.text.ColumnText.{ColumnText}
use Rattle.mr_types.specs.declared.text.KeyText.{KeyText}
use Rattle.mr_types.specs.declared.expr.Expr.{Expr}
use Rattle.mr_types.specs.declared.expr.Expr.TheVariants as expr
use Rattle.mr_types.specs.declared.expr.Cmp.TheVariants.{Eq}
use Rattle.mr_types.specs.declared.statement.ItemValue.{ItemValue}
use Rattle.mr_types.specs.declared.statement.ItemValue.TheVariants as item
use Rattle.mr_types.specs.declared.statement.Factor.TheVariants as factor
use Rattle.mr_types.specs.declared.statement.SetTo.TheVariants as to
use Rattle.mr_types.specs.declared.statement.SetItem.{SetItem}
use Rattle.mr_types.specs.declared.statement.Columns.{Columns}
use Rattle.mr_types.specs.declared.statement.Columns.TheVariants as columns
use Rattle.mr_types.specs.declared.statement.Aggregate.TheVariants as aggregate
use Rattle.mr_types.specs.declared.statement.IndexName.TheVariants as index
use Rattle.mr_types.specs.declared.statement.Select.{Select}
use Rattle.mr_types.specs.declared.statement.Insert.{Insert}
use Rattle.mr_types.specs.declared.statement.KeyName.{KeyName}
use Rattle.mr_types.specs.declared.statement.Statement.{Statement}
use Rattle.mr_types.specs.declared.statement.Statement.TheVariants as statement

abbrev pub num : ℕ → Value
num n = Number (pos n)

-- a column without a default
abbrev pub column : List ℕ → KindText → Bool → ColumnText
column name kind nullable = record { name = name; kind = kind; nullable = nullable; default = None }

abbrev pub primary_key : List (List ℕ) → KeyText
primary_key names = record { name = []; primary = true; unique = true; columns = names; comment = [] }

abbrev pub key : List ℕ → List (List ℕ) → KeyText
key name names = record { name = name; primary = false; unique = false; columns = names; comment = [] }

abbrev pub unique_key : List ℕ → List (List ℕ) → KeyText
unique_key name names = record { name = name; primary = false; unique = true; columns = names; comment = [] }

abbrev pub create : List ℕ → List ColumnText → List KeyText → List ℕ → Statement
create name cs ks comment = statement.CreateTable (record { name = name; columns = cs; keys = ks; comment = comment }) false None

abbrev pub tuple : List Value → List ItemValue
tuple vs = map item.Literal vs

abbrev pub insert_data : List ℕ → List (List Value) → Insert
insert_data name rows = record { table = name; columns = None; rows = map tuple rows }

abbrev pub insert : List ℕ → List (List Value) → Statement
insert name rows = statement.Insert (insert_data name rows)

abbrev pub replace : List ℕ → List (List Value) → Statement
replace name rows = statement.Replace (insert_data name rows)

abbrev pub select_data : Columns → List ℕ → Select
select_data cs name = record { columns = cs; table = name; forced = None; condition = None; order = []; skip = 0; most = None }

abbrev pub select_all : List ℕ → Statement
select_all name = statement.Select (select_data columns.All name)

abbrev pub select : List (List ℕ) → List ℕ → Statement
select names name = statement.Select (select_data (columns.Names names) name)

abbrev pub select_count : List ℕ → Statement
select_count name = statement.Select (select_data (columns.Aggregates (aggregate.Count ∷ [])) name)

abbrev pub select_where : List (List ℕ) → List ℕ → Option Expr → Statement
select_where names name e = statement.Select (record (select_data (columns.Names names) name) { condition = e })

abbrev pub select_by : List (List ℕ) → List ℕ → List ℕ → Statement
select_by names name by_ = statement.Select (record (select_data (columns.Names names) name) { order = record { column = by_; descending = false } ∷ [] })

abbrev pub select_forced_data : List (List ℕ) → List ℕ → List ℕ → Option Expr → Select
select_forced_data names name k e = record (select_data (columns.Names names) name) { forced = Some (index.Name k); condition = e }

abbrev pub select_forced : List (List ℕ) → List ℕ → List ℕ → Option Expr → Statement
select_forced names name k e = statement.Select (select_forced_data names name k e)

abbrev pub set_to : List ℕ → Value → SetItem
set_to name v = record { column = name; to = to.Sum (record { minus = false; factors = factor.Literal v ∷ [] } ∷ []) }

-- c = c + n
abbrev pub set_more : List ℕ → ℕ → SetItem
set_more name n = record { column = name; to = to.Sum (record { minus = false; factors = factor.Column name ∷ [] } ∷ record { minus = false; factors = factor.Literal (num n) ∷ [] } ∷ []) }

abbrev pub update : List ℕ → List SetItem → Option Expr → Statement
update name set e = statement.Update name set e

abbrev pub key_of : List ℕ → List ℕ → KeyName
key_of table k = record { table = table; key = k }

abbrev pub all_ok : List Statement → List (Result Statement ℕ)
all_ok [] = []
all_ok (s ∷ ss) = Ok s ∷ all_ok ss

abbrev pub equals : List ℕ → Value → Option Expr
equals name v = Some (expr.Compare name Eq v)

abbrev pub not_equals : List ℕ → Value → Option Expr
not_equals name v = Some (expr.Not (expr.Compare name Eq v))

abbrev pub session : List ℕ → Statement
session name = statement.Session name

abbrev pub begin : Statement
begin = statement.Begin false

abbrev pub begin_index : List ℕ → List ℕ → List ℕ → Statement
begin_index k table c = statement.BeginIndex table (key k (c ∷ []))

abbrev pub begin_unique : List ℕ → List ℕ → List ℕ → Statement
begin_unique k table c = statement.BeginIndex table (unique_key k (c ∷ []))
