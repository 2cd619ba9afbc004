use Rattle.std.proofs.Common.{refl}
use Rattle.mr_spec.specs.RowForm.{value_bytes, values_bytes}
use Rattle.mr_fields.proofs.Lists.{wrote, one_more_has}
use Rattle.mr_fields.specs.Fitting.{ValueHasPlace}
use Rattle.mr_fields.proofs.write_rows.write_values.Goals as goal

pub writing-preserved : goal.writing-preserved
writing-preserved c = (
  wrote value_bytes values_bytes refl (λ v vs. refl) c.args.values.now c.writing.value-index c.value-item.result c.args.out.now.items c.writing.out.items c.write_value.new.out.items c.writing-test.true c.value-item.is c.writing.invariant.0 c.in_ok-write_value.ensures.written,
  one_more_has ValueHasPlace c.args.values.now c.writing.value-index c.value-item.result c.writing-test.true c.value-item.is c.writing.invariant.1 c.in_ok-write_value.ensures.place,
)
