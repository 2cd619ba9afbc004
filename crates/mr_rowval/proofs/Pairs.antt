-- Columns and their values.
use Rattle.std.proofs.Common.{Option, Some, None}
use Rattle.mr_types.specs.declared.definition.ColumnDef.{ColumnDef}
use Rattle.mr_types.specs.declared.value.Value.{Value}

-- where there is a column, there is a value
abbrev pub IsPair : Option ColumnDef → Option Value → Type 0
IsPair (Some column) (Some value) = Unit {0}
IsPair (Some column) None = ⊥
IsPair None value = Unit {0}
