-- MIN and MAX.
use Rattle.std.specs.Prelude.{ℕ, Bool, if◌then◌else◌, List, fold, Option, Some, None}
use Rattle.std.specs.Option.{option_map_or}
use Rattle.std.specs.Ordering.{is_lt, is_gt}
use Rattle.mr_types.specs.declared.value.Value.{Value}
use Rattle.mr_types.specs.declared.kind.Kind.{Kind}
use Rattle.mr_types.specs.declared.definition.TableDef.{TableDef}
use Rattle.mr_types.specs.declared.row.Row.{Row}
use Rattle.mr_types.specs.Order.{value_cmp}
use Rattle.mr_spec.specs.Rows.{place_of, kind_at}
use Rattle.mr_spec.specs.Select.{first_by, values_of}
use Rattle.mr_model_select.specs.declared.listing.End.{End}
use Rattle.mr_model_select.specs.declared.listing.End.TheVariants.{Least, Greatest}

-- a value comes before another for this aggregate
abbrev pub comes_first : End → Kind → Value → Value → Bool
comes_first Least kind a b = is_lt (value_cmp kind a b)
comes_first Greatest kind a b = is_gt (value_cmp kind a b)

-- the first of these values and of a best one before them
abbrev pub first_with : (Value → Value → Bool) → Option Value → List Value → Value
first_with before None vs = first_by before vs
first_with before (Some best) vs = fold (λ best x. if before x best then x else best) best vs

-- the least or greatest of a column's values that aren't NULL, NULL where there is none
abbrev pub end_in : TableDef → End → List ℕ → List Row → Value
end_in def end name rows = let i = option_map_or (λ n. n) (place_of def name) 0 in first_by (comes_first end (kind_at def i)) (values_of i rows)
