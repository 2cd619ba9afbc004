-- What is written of a row's columns.
use Rattle.std.specs.Prelude.{Option, Some}
use Rattle.mr_types.specs.declared.definition.ColumnDef.{ColumnDef}
use Rattle.mr_types.specs.declared.value.Value.{Value}
use Rattle.mr_memcmp.specs.ComeBack.{IsTaken}

-- a column takes its value as it is; what stands past the last column doesn't matter
abbrev pub TakesPart : Option ColumnDef → Option Value → Type 0
TakesPart (Some column) (Some value) = IsTaken column.ty value
TakesPart _ _ = Unit {0}
