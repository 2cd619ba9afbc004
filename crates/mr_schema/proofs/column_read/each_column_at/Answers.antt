use Rattle.std.proofs.Common.{arith, length-append, ◌∷◌, [], ◌∙◌, ap, length, List}
use Rattle.mr_types.specs.declared.definition.ColumnDef.{ColumnDef}
use Rattle.mr_fields.specs.Fields.{listed_in}
use Rattle.mr_fields.proofs.Lists.{goes_on}
use Rattle.mr_schema.specs.DefinitionForm.{column_in}
use Rattle.mr_schema.proofs.column_read.each_column_at.Goals as goal

pub reading-preserved : goal.reading-preserved
reading-preserved c = record {
  so_far = goes_on column_in (listed_in column_in c.args.count c.args.bytes.now) c.reading.columns c.args.count c.reading.i c.reading.rest.now
      c.reading-test.true c.reading.invariant.so_far c.push.new.self c.in_ok-column.column c.in_ok-column.behind.now c.in_ok-column.ensures c.in_ok-push.ensures.ok;
  count = ap (λ (xs : List ColumnDef). length xs) c.in_ok-push.ensures.ok ∙ omega (arith, c.reading.invariant.count, length-append c.reading.columns (c.in_ok-column.column ∷ []));
}
