use Rattle.mr_wal.proofs.FieldLaws.{all_bytes}
use Rattle.mr_wal.proofs.RecordLaws.{record_only}
use Rattle.mr_wal.proofs.read.read_record.Goals as goal

pub returns-in-Ok-clause-form : goal.returns-in-Ok-clause-form
returns-in-Ok-clause-form c = (record_only c.args.bytes.now c.in-Ok.read (all_bytes c.args.bytes.now c.type_inv.bytes) c.in-Ok.ensures).0

pub returns-in-Ok-clause-fits : goal.returns-in-Ok-clause-fits
returns-in-Ok-clause-fits c = (record_only c.args.bytes.now c.in-Ok.read (all_bytes c.args.bytes.now c.type_inv.bytes) c.in-Ok.ensures).1
