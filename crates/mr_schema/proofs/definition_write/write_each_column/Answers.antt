use Rattle.std.proofs.Common.{refl}
use Rattle.mr_fields.specs.Fields.{listed_bytes}
use Rattle.mr_fields.proofs.Lists.{wrote, one_more_has}
use Rattle.mr_schema.specs.DefinitionFitting.{ColumnHasPlace}
use Rattle.mr_schema.specs.DefinitionForm.{column_bytes}
use Rattle.mr_schema.proofs.definition_write.write_each_column.Goals as goal

pub writing-preserved : goal.writing-preserved
writing-preserved c = (
  wrote column_bytes (listed_bytes column_bytes) refl (λ x xs. refl) c.args.columns.now c.writing.column-index c.column-item.result c.args.out.now.items c.writing.out.items c.write_column.new.out.items c.writing-test.true c.column-item.is c.writing.invariant.0 c.in_ok-write_column.ensures.written,
  one_more_has ColumnHasPlace c.args.columns.now c.writing.column-index c.column-item.result c.writing-test.true c.column-item.is c.writing.invariant.1 c.in_ok-write_column.ensures.place,
)
