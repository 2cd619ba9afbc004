-- The new rows of INSERT and REPLACE.
use Rattle.std.specs.Prelude.{ℕ, pos, ◌+◌, Bool, true, false, not, ◌&&◌, nat_eq, ◌==◌, if◌then◌else◌, List, [], ◌∷◌, ◌++◌, length, map, Option, Some, None, is_none, unwrap_or, Result, Ok, slice_get, position}
use Rattle.std.specs.List.{list_any, enumerate_from}
use Rattle.std.specs.Option.{option_map_or, option_and_then}
use Rattle.mr_types.specs.declared.value.Value.{Value}
use Rattle.mr_types.specs.declared.value.Value.TheVariants.{Null, Number}
use Rattle.mr_types.specs.declared.definition.ColumnDef.{ColumnDef}
use Rattle.mr_types.specs.declared.definition.TableDef.{TableDef}
use Rattle.mr_types.specs.declared.definition.Ttl.{Ttl}
use Rattle.mr_types.specs.declared.row.Row.{Row}
use Rattle.mr_types.specs.declared.statement.Insert.{Insert}
use Rattle.mr_types.specs.declared.statement.ItemValue.{ItemValue}
use Rattle.mr_types.specs.declared.statement.ItemValue.TheVariants as item
use Rattle.mr_types.specs.Refusals.{◌>>=◌, ◌>>◌, refuse_where, some_or, each, in_turn}
use Rattle.mr_types.specs.Values.{assign_to}
use Rattle.mr_spec.specs.Rows.{place_of}
use Rattle.mr_spec.specs.declared.progress.Progress.{Progress}
use Rattle.mr_spec.specs.Progress.{Scene}

-- ---- the hidden number and the stamp

-- a table without a primary key
abbrev pub has_hidden_key : TableDef → Bool
has_hidden_key def = length def.primary.columns == 0

-- the hidden number of a new row
abbrev pub hidden_for : TableDef → ℕ → Option ℕ
hidden_for def next = if has_hidden_key def then Some next else None

-- the number drawn, where the table has hidden ones
abbrev pub drawn : TableDef → Progress → Progress
drawn def g = record g { next = if has_hidden_key def then g.next + 1 else g.next }

-- a number from 0 on
abbrev pub number_in : Value → ℕ
number_in (Number (pos n)) = n
number_in _ = 0

-- the stamp of a row with these fields: that of the TTL column, or else the one given
abbrev pub stamp_for : Option Ttl → ℕ → List Value → Option ℕ
stamp_for None given fields = None
stamp_for (Some ttl) given fields = Some (option_map_or (λ i. number_in (unwrap_or (slice_get fields i) Null)) ttl.column given)

-- a new row with these fields
abbrev pub new_row : Scene → ℕ → List Value → Row
new_row a next fields = record { hidden = hidden_for a.def next; stamp = stamp_for a.def.ttl a.moment fields; fields = fields }

-- ---- the columns and tuples

-- one more place of the column list: 1054 where the column isn't there, 1110 where it stands twice
abbrev pub with_place : TableDef → List ℕ → List ℕ → Result (List ℕ) ℕ
with_place def at name = do
  i ← some_or 1054 (place_of def name)
  refuse_where 1110 (list_any (nat_eq i) at)
  Ok (at ++ i ∷ [])

-- the places of the column list, or of all columns where there is none
abbrev pub listed_places : TableDef → Option (List (List ℕ)) → Result (List ℕ) ℕ
listed_places def None = Ok (map (λ p. p.0) (enumerate_from 0 def.columns))
listed_places def (Some names) = in_turn (with_place def) [] names

-- what a tuple has for a column; DEFAULT where the column isn't listed
abbrev pub item_for : List ℕ → List ItemValue → ℕ → ItemValue
item_for at tuple i = unwrap_or (option_and_then (slice_get tuple) (position (nat_eq i) at)) item.Default

-- DEFAULT
abbrev pub is_default : ItemValue → Bool
is_default item.Default = true
is_default (item.Literal v) = false

-- a NOT NULL column without a default is missing or has DEFAULT
abbrev pub lacks : List ℕ → List (List ItemValue) → ℕ × ColumnDef → Bool
lacks at tuples p = is_none p.1.default && list_any (λ t. is_default (item_for at t p.0)) tuples

-- 1054 and 1110 for the column list, 1136 for a tuple of another length, 1364 for a column without a value
abbrev pub insert_tests : TableDef → Insert → Result (List ℕ) ℕ
insert_tests def s = do
  at ← listed_places def s.columns
  refuse_where 1136 (list_any (λ t. not (length t == length at)) s.rows)
  refuse_where 1364 (list_any (lacks at s.rows) (enumerate_from 0 def.columns))
  Ok at

-- a column's value: its default, or the literal as assignment gives it
abbrev pub assigned : ColumnDef → ItemValue → Result Value ℕ
assigned c item.Default = Ok (unwrap_or c.default Null)
assigned c (item.Literal v) = assign_to c.ty v

-- the values of a tuple, in column order, or the first refusal
abbrev pub fields_of : TableDef → List ℕ → List ItemValue → Result (List Value) ℕ
fields_of def at tuple = each (λ p. assigned p.1 (item_for at tuple p.0)) (enumerate_from 0 def.columns)
