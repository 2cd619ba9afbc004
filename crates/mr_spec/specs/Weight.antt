-- How heavy a change is.
use Rattle.std.specs.Prelude.{ℕ, ◌+◌, ◌*◌, sum_by, length, Option, Some, None, List, [], ◌∷◌}
use Rattle.std.specs.Option.{option_map_or}
use Rattle.mr_spec.specs.declared.world.Table.{Table}
use Rattle.mr_types.specs.declared.value.Value.{Value}
use Rattle.mr_types.specs.declared.value.Value.TheVariants.{Null, Number, Text, Bytes}
use Rattle.mr_types.specs.declared.row.Row.{Row}
use Rattle.mr_types.specs.declared.row.Change.{Change}
use Rattle.mr_spec.specs.Rows.{rows_of, table_name}
use Rattle.mr_spec.specs.Database.{table_of}

-- the bytes of a number that is there
abbrev pub given_size : Option ℕ → ℕ
given_size None = 0
given_size (Some n) = 8

-- the bytes of a value's form
abbrev pub value_size : Value → ℕ
value_size Null = 1
value_size (Number n) = 9
value_size (Text t) = 3 + length t
value_size (Bytes b) = 3 + length b

-- of values, one after the other
abbrev pub values_size : List Value → ℕ
values_size [] = 0
values_size (v ∷ vs) = value_size v + values_size vs

-- the bytes of a row's form: its flags and numbers, the count of its columns, and its values
abbrev pub row_size : Row → ℕ
row_size r = 2 + given_size r.hidden + given_size r.stamp + values_size r.fields

-- a change in a table with so many secondary keys: 64 bytes and its rows' forms, twice and once a secondary key
abbrev pub weight_of : ℕ → Change → ℕ
weight_of secondary c = (2 + secondary) * (64 + sum_by row_size (rows_of c))

-- how many secondary keys the table of this name has
abbrev pub secondary_count : List Table → List ℕ → ℕ
secondary_count tables name = option_map_or (λ t. length t.def.secondary) (table_of name tables) 0

-- the weight of these changes together
abbrev pub total_weight : List Table → List Change → ℕ
total_weight tables changes = sum_by (λ c. weight_of (secondary_count tables (table_name c)) c) changes
