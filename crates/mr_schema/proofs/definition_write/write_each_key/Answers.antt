use Rattle.std.proofs.Common.{refl}
use Rattle.mr_fields.specs.Fields.{listed_bytes}
use Rattle.mr_fields.proofs.Lists.{wrote, one_more_has}
use Rattle.mr_schema.specs.DefinitionFitting.{KeyHasPlace}
use Rattle.mr_schema.specs.DefinitionForm.{key_bytes}
use Rattle.mr_schema.proofs.definition_write.write_each_key.Goals as goal

pub writing-preserved : goal.writing-preserved
writing-preserved c = (
  wrote key_bytes (listed_bytes key_bytes) refl (λ x xs. refl) c.args.keys.now c.writing.key-index c.key-item.result c.args.out.now.items c.writing.out.items c.write_key.new.out.items c.writing-test.true c.key-item.is c.writing.invariant.0 c.in_ok-write_key.ensures.written,
  one_more_has KeyHasPlace c.args.keys.now c.writing.key-index c.key-item.result c.writing-test.true c.key-item.is c.writing.invariant.1 c.in_ok-write_key.ensures.place,
)
