-- An UPDATE bound to a table, and what it makes of a row.
use Rattle.std.specs.Prelude.{ℕ, ◌+ℤ◌, ◌*ℤ◌, neg_ℤ, false, ◌||◌, ◌&&◌, if◌then◌else◌, List, [], ◌∷◌, map, Option, Some, None, Result, Ok, unwrap_or, slice_get, slice_set}
use Rattle.std.specs.List.{list_any}
use Rattle.std.specs.Option.{option_and_then}
use Rattle.mr_types.specs.declared.value.Value.{Value}
use Rattle.mr_types.specs.declared.value.Value.TheVariants.{Null}
use Rattle.mr_types.specs.declared.definition.TableDef.{TableDef}
use Rattle.mr_types.specs.declared.row.Row.{Row}
use Rattle.mr_types.specs.declared.expr.Expr.{Expr}
use Rattle.mr_types.specs.declared.statement.Factor.{Factor}
use Rattle.mr_types.specs.declared.statement.Factor.TheVariants as written
use Rattle.mr_types.specs.declared.statement.Term.{Term}
use Rattle.mr_types.specs.declared.statement.SetTo.{SetTo}
use Rattle.mr_types.specs.declared.statement.SetTo.TheVariants as to
use Rattle.mr_types.specs.declared.statement.SetItem.{SetItem}
use Rattle.mr_types.specs.Refusals.{◌>>=◌, ◌>>◌, refuse_where, some_or, in_turn}
use Rattle.mr_types.specs.Values.{assign_to}
use Rattle.mr_spec.specs.Truth.{where_of, is_unknown, known_columns}
use Rattle.mr_spec.specs.Binding.{place_or_first}
use Rattle.mr_spec.specs.Setting.{combined, same_fields, updated_row, is_wrong_sum, has_unknown_to, is_default_to, lacks_default}
use Rattle.mr_bound.specs.BoundSelects.{converted_condition}
use Rattle.mr_bound.specs.declared.bound.BoundFactor.{BoundFactor}
use Rattle.mr_bound.specs.declared.bound.BoundFactor.TheVariants.{Column, Literal}
use Rattle.mr_bound.specs.declared.bound.BoundTerm.{BoundTerm}
use Rattle.mr_bound.specs.declared.bound.BoundSet.{BoundSet}
use Rattle.mr_bound.specs.declared.bound.BoundUpdate.{BoundUpdate}

-- ---- places in the place of names

abbrev pub factor_at : TableDef → Factor → BoundFactor
factor_at def (written.Column name) = Column (place_or_first def name)
factor_at def (written.Literal v) = Literal v

abbrev pub term_at : TableDef → Term → BoundTerm
term_at def t = record { minus = t.minus; factors = map (factor_at def) t.factors }

-- the default of the column of this name
abbrev pub default_of : TableDef → List ℕ → Value
default_of def name = unwrap_or (option_and_then (λ c. c.default) (slice_get def.columns (place_or_first def name))) Null

-- DEFAULT is one term of one literal
abbrev pub sum_at : TableDef → List ℕ → SetTo → List BoundTerm
sum_at def name to.Default = record { minus = false; factors = Literal (default_of def name) ∷ [] } ∷ []
sum_at def name (to.Sum terms) = map (term_at def) terms

abbrev pub set_at : TableDef → SetItem → BoundSet
set_at def s = record { column = place_or_first def s.column; to = sum_at def s.column s.to }

-- 1054 for SET and WHERE, then 1366 for arithmetic on texts and for a literal in WHERE, then 1364 for DEFAULT where there is none
abbrev pub bind_update : TableDef → List SetItem → Option Expr → Result BoundUpdate ℕ
bind_update def set c = do
  refuse_where 1054 (list_any (λ s. is_unknown def s.column || has_unknown_to def s.to) set)
  known_columns def (where_of c)
  refuse_where 1366 (list_any (λ s. is_wrong_sum def s.to) set)
  condition ← converted_condition def c
  refuse_where 1364 (list_any (λ s. is_default_to s.to && lacks_default def s.column) set)
  Ok (record { set = map (set_at def) set; condition = condition })

-- ---- what it makes of a row

-- a column's value as assigned so far, or a literal
abbrev pub factor_in : List Value → BoundFactor → Value
factor_in fields (Column i) = unwrap_or (slice_get fields i) Null
factor_in fields (Literal v) = v

-- the product of these factors, from left to right, each result within its range; a single one is as it is
abbrev pub product_of : List Value → List BoundFactor → Result Value ℕ
product_of fields [] = Ok Null
product_of fields (f ∷ fs) = in_turn (combined (λ m n. m *ℤ n)) (factor_in fields f) (map (factor_in fields) fs)

-- the sum so far, with one more product
abbrev pub with_term : List Value → Value → BoundTerm → Result Value ℕ
with_term fields sum t = do
  p ← product_of fields t.factors
  combined (λ m n. if t.minus then m +ℤ neg_ℤ n else m +ℤ n) sum p

-- the sum of these products, from left to right, each result within its range; a single one is as it is
abbrev pub sum_of : List Value → List BoundTerm → Result Value ℕ
sum_of fields [] = Ok Null
sum_of fields (t ∷ ts) = do
  first ← product_of fields t.factors
  in_turn (with_term fields) first ts

-- the fields with one more assignment, which sees those before it; the column is always there
abbrev pub with_set : TableDef → List Value → BoundSet → Result (List Value) ℕ
with_set def fields s = do
  c ← some_or 1054 (slice_get def.columns s.column)
  v ← sum_of fields s.to
  a ← assign_to c.ty v
  Ok (slice_set fields s.column a)

-- the row after all assignments, None where its fields stay byte for byte; 1690, or what an assignment refuses
abbrev pub updated : TableDef → Row → BoundUpdate → Result (Option Row) ℕ
updated def row u = do
  fields ← in_turn (with_set def) row.fields u.set
  Ok (if same_fields row.fields fields then None else Some (updated_row def row fields))
