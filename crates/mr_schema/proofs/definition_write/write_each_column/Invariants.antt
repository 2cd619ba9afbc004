use Rattle.std.proofs.Common.{◌≡◌, ◌++◌, take}
use Rattle.mr_fields.specs.Fields.{listed_bytes}
use Rattle.mr_schema.specs.DefinitionForm.{column_bytes}
use Rattle.std.specs.List.{AllByRecursion}
use Rattle.mr_schema.specs.DefinitionFitting.{ColumnHasPlace}
use Rattle.mr_schema.proofs.definition_write.write_each_column.Given as goal

abbrev pub invariant-writing : goal.invariant-writing
invariant-writing l = (l.out.items ≡ l.fn.out.items ++ listed_bytes column_bytes (take l.column-index l.columns)) × AllByRecursion ColumnHasPlace (take l.column-index l.columns)
