-- Ranges of an index from what a condition says of its first columns.
use Rattle.std.specs.Prelude.{ℕ, ◌&&◌, Bool, true, false, if◌then◌else◌, List, [], ◌∷◌, Option, Some, None, is_some, slice_get}
use Rattle.std.specs.Option.{option_map_or}
use Rattle.mr_types.specs.declared.definition.ColumnDef.{ColumnDef}
use Rattle.mr_types.specs.declared.definition.TableDef.{TableDef}
use Rattle.mr_types.specs.declared.row.Row.{Row}
use Rattle.mr_types.specs.declared.value.Value.{Value}
use Rattle.mr_spec.specs.declared.bound.Bound.{Bound}
use Rattle.mr_plan.specs.Columns.{said, fixed}
use Rattle.mr_plan.specs.Tests.{fits_column, value_from, says}

-- ---- on rows

-- the column is there, and the condition fixes it by `=` to a value that it may have
abbrev pub is_fitting : Option ColumnDef → Option Value → Bool
is_fitting (Some column) (Some v) = fits_column column.ty v
is_fitting _ _ = false

-- the row meets what the condition says of the column at a place, if there is one
abbrev pub place_held : TableDef → Option Bound → ℕ → Row → Bool
place_held def e p row = if is_some (slice_get def.columns p) then said def p row e else true

-- The row meets what the condition says of the first columns of a key: of the first one, and where `=` fixes that of the
-- next one too, and so on.
abbrev pub held : TableDef → Option Bound → List ℕ → Row → Bool
held def e [] row = true
held def e (p ∷ places) row = place_held def e p row && (if is_fitting (slice_get def.columns p) (fixed p e) then held def e places row else true)

-- ---- on keys

-- the keys that the condition leaves, as far as it says something of the column at a place
abbrev pub place_says : TableDef → Option Bound → List ℕ → ℕ → List ℕ → Bool
place_says def e front p key = option_map_or (λ column. says front column.ty p key e) (slice_get def.columns p) true

-- behind a column that is fixed
abbrev pub front_with : List ℕ → ColumnDef → Option Value → Option (List ℕ)
front_with front column None = None
front_with front column (Some v) = if fits_column column.ty v then Some (value_from front column.ty v) else None

abbrev pub next_front : TableDef → Option Bound → List ℕ → ℕ → Option (List ℕ)
next_front def e front p = option_map_or (λ column. front_with front column (fixed p e)) (slice_get def.columns p) None

-- the keys that are left, where these bytes stand for the columns so far
abbrev pub index_says : TableDef → Option Bound → List ℕ → List ℕ → List ℕ → Bool
index_says def e front [] key = true
index_says def e front (p ∷ places) key = place_says def e front p key && option_map_or (λ more. index_says def e more places key) (next_front def e front p) true
