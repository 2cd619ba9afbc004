use Rattle.std.proofs.Common.{◌++◌, ◌∙◌, ap, List, ℕ}
use Rattle.mr_schema.specs.DefinitionForm.{definition_bytes, reads_definition}
use Rattle.mr_schema.proofs.DefinitionLaws.{definition_written}
use Rattle.mr_schema.proofs.definition_write.write_def.Goals as goal

pub returns-clause-reads_back : goal.returns-clause-reads_back
returns-clause-reads_back c = λ fits.
    ap reads_definition (c.from_vec.ensures ∙ c.in_ok-write_definition.ensures.written ∙ ap (λ (x : List ℕ). x ++ definition_bytes c.args.def.now) c.new-out.ensures.items)
    ∙ definition_written c.args.def.now fits
