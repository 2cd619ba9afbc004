-- Stamps of updated rows: a stamp has 64 bits.
use Rattle.std.specs.Prelude.{ℕ, ◌-◌, ◌<◌, ◌^◌, min, if◌then◌else◌, List, Option, Some, None, IfSome, Result, Ok, unwrap_or, slice_get}
use Rattle.std.specs.Option.{option_map_or}
use Rattle.mr_types.specs.declared.value.Value.{Value}
use Rattle.mr_types.specs.declared.value.Value.TheVariants.{Null}
use Rattle.mr_types.specs.declared.definition.TableDef.{TableDef}
use Rattle.mr_types.specs.declared.definition.Ttl.{Ttl}
use Rattle.mr_types.specs.declared.row.Row.{Row}
use Rattle.mr_types.specs.Refusals.{◌>>=◌, in_turn}
use Rattle.mr_spec.specs.NewRows.{number_in, stamp_for}
use Rattle.mr_spec.specs.Setting.{same_fields}
use Rattle.mr_bound.specs.declared.bound.BoundUpdate.{BoundUpdate}
use Rattle.mr_bound.specs.BoundUpdates.{with_set}

-- a number from 0 on, the greatest of 64 bits in the place of one of more
abbrev pub number_within : Value → ℕ
number_within v = min (number_in v) (2 ^ 64 - 1)

-- the stamp of a row with these fields: that of the TTL column, or else the one given
abbrev pub stamp_within : Option Ttl → ℕ → List Value → Option ℕ
stamp_within None given fields = None
stamp_within (Some ttl) given fields = Some (option_map_or (λ i. number_within (unwrap_or (slice_get fields i) Null)) ttl.column given)

-- the old row with new fields
abbrev pub row_within : TableDef → Row → List Value → Row
row_within def old fields = record old { stamp = stamp_within def.ttl (unwrap_or old.stamp 0) fields; fields = fields }

-- the row after all assignments, its stamp within 64 bits whatever stands in the TTL column
abbrev pub updated_within : TableDef → Row → BoundUpdate → Result (Option Row) ℕ
updated_within def row u = do
  fields ← in_turn (with_set def) row.fields u.set
  Ok (if same_fields row.fields fields then None else Some (row_within def row fields))

-- the TTL column, where there is one, has a number of at most 64 bits, as the kinds of columns allow it
abbrev pub HasStamp : TableDef → Row → Type 0
HasStamp def row = IfSome (stamp_for def.ttl 0 row.fields) (λ n. n < 2 ^ 64)
