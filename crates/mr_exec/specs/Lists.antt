-- A list of rows that is gone through from its first row to its last.
use Rattle.std.specs.Prelude.{ℕ, ◌+◌, Bool, true, false, ◌&&◌, List, [], ◌∷◌, Option, None, slice_get}
use Rattle.mr_types.specs.declared.value.Value.{Value}
use Rattle.mr_types.specs.declared.definition.TableDef.{TableDef}
use Rattle.mr_types.specs.declared.row.Row.{Row}
use Rattle.mr_types.specs.FieldValues.{is_held_by}
use Rattle.mr_spec.specs.Rows.{kind_at}

-- each of the values stands in a column whose kind has such values, from a column on
abbrev pub values_fit : TableDef → ℕ → List Value → Bool
values_fit def i [] = true
values_fit def i (v ∷ vs) = is_held_by (kind_at def i) v && values_fit def (i + 1) vs

-- so it is in each of the rows
abbrev pub rows_fit : TableDef → List Row → Bool
rows_fit def [] = true
rows_fit def (r ∷ rs) = values_fit def 0 r.fields && rows_fit def rs

-- the place of the next row
abbrev pub next_at : ℕ → Bool → ℕ
next_at at true = at + 1
next_at at false = at

-- the row that is stood on
abbrev pub stood_on : List Row → ℕ → Bool → Option Row
stood_on rows at true = slice_get rows at
stood_on rows at false = None
