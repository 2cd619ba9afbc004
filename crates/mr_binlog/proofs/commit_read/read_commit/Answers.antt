use Rattle.mr_fields.proofs.FieldLaws.{all_bytes, whole_only}
use Rattle.mr_binlog.specs.CommitForm.{commit_bytes, commit_in}
use Rattle.mr_binlog.proofs.CommitLaws.{commit_only}
use Rattle.mr_binlog.proofs.commit_read.read_commit.Goals as goal

pub returns-in-Ok-clause-form : goal.returns-in-Ok-clause-form
returns-in-Ok-clause-form c = whole_only commit_bytes commit_in c.args.bytes.now c.in-Ok.commit (commit_only c.args.bytes.now (all_bytes c.args.bytes.now c.type_inv.bytes)) c.in-Ok.ensures
