use Rattle.mr_fields.proofs.FieldLaws.{all_bytes}
use Rattle.mr_commit_log.proofs.append.is_short.Goals as goal

pub returns-clause-bytes : goal.returns-clause-bytes
returns-clause-bytes c = all_bytes c.args.body.now c.type_inv.body
