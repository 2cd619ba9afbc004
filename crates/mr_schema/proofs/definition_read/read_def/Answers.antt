use Rattle.mr_fields.proofs.FieldLaws.{all_bytes, whole_only}
use Rattle.mr_schema.specs.DefinitionForm.{definition_bytes, definition_in}
use Rattle.mr_schema.proofs.DefinitionLaws.{definition_only}
use Rattle.mr_schema.proofs.definition_read.read_def.Goals as goal

pub returns-in-Ok-clause-form : goal.returns-in-Ok-clause-form
returns-in-Ok-clause-form c = whole_only definition_bytes definition_in c.args.bytes.now c.in-Ok.def (definition_only c.args.bytes.now (all_bytes c.args.bytes.now c.type_inv.bytes)) c.in-Ok.ensures
