-- The one key that a condition leaves of a primary key.
use Rattle.std.specs.Prelude.{ℕ, suc, ◌&&◌, Bool, true, false, if◌then◌else◌, List, [], ◌∷◌, Option, Some, None, slice_get, unwrap_or}
use Rattle.mr_types.specs.declared.definition.ColumnDef.{ColumnDef}
use Rattle.mr_types.specs.declared.definition.TableDef.{TableDef}
use Rattle.mr_types.specs.declared.row.Row.{Row}
use Rattle.mr_types.specs.declared.value.Value.{Value}
use Rattle.mr_types.specs.declared.value.Value.TheVariants.{Null}
use Rattle.mr_spec.specs.declared.bound.Bound.{Bound}
use Rattle.mr_plan.specs.Columns.{fixed}
use Rattle.mr_plan.specs.Keys.{is_fitting}

-- each of these columns is fixed by `=` to a value that it may have
abbrev pub are_fixed : TableDef → Option Bound → List ℕ → Bool
are_fixed def e [] = true
are_fixed def e (p ∷ places) = is_fitting (slice_get def.columns p) (fixed p e) && are_fixed def e places

-- a primary key that isn't hidden
abbrev pub is_point : TableDef → Option Bound → List ℕ → Bool
is_point def e [] = false
is_point def e (p ∷ places) = are_fixed def e (p ∷ places)

-- the values that columns from a place on are fixed to, NULL where there is none
abbrev pub fixed_from : Option Bound → ℕ → List ColumnDef → List Value
fixed_from e at [] = []
fixed_from e at (column ∷ columns) = unwrap_or (fixed at e) Null ∷ fixed_from e (suc at) columns

-- a row with the key; None where the condition leaves more than one, or none
abbrev pub point_of : TableDef → Option Bound → Option Row
point_of def e = if is_point def e def.primary.columns then Some (record { hidden = None; stamp = None; fields = fixed_from e 0 def.columns }) else None
