use Rattle.std.proofs.Common.{◌≡◌, true, subst}
use Rattle.std.specs.List.{list_all}
use Rattle.mr_fields.specs.Fields.{is_byte}
use Rattle.mr_fields.proofs.FieldLaws.{all_bytes}
use Rattle.mr_binlog.proofs.log.commit_of.Goals as goal

pub returns-in-Ok-clause-bytes : goal.returns-in-Ok-clause-bytes
returns-in-Ok-clause-bytes c = subst (λ bytes. list_all is_byte bytes ≡ true) c.in-Ok.ensures.form (all_bytes c.args.body.now c.type_inv.body)
