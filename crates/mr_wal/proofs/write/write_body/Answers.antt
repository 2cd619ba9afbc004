use Rattle.std.proofs.Common.{◌∷◌, [], ap}
use Rattle.mr_wal.specs.EngineLog.{body_bytes}
use Rattle.mr_wal.proofs.WritingLaws.{one_front, two_fronts}
use Rattle.mr_wal.proofs.write.write_body.Goals as goal

pub returns-in_ok-write_u64-in-Prepare-clause-written : goal.returns-in_ok-write_u64-in-Prepare-clause-written
returns-in_ok-write_u64-in-Prepare-clause-written c =
    two_fronts c.write_plain.result c.args.out.now.items c.write_bytes.new.out.items c.write_u64.new.out.items c.write_plain.new.out.items (1 ∷ []) _ _ _ c.in_ok-write_bytes-in-Prepare.ensures c.in_ok-write_u64-in-Prepare.ensures c.write_plain.ensures.written (ap body_bytes c.in-Prepare.is)

pub returns-in_ok-write_bytes-in-Plain-clause-written : goal.returns-in_ok-write_bytes-in-Plain-clause-written
returns-in_ok-write_bytes-in-Plain-clause-written c =
    one_front c.write_plain-in-Plain.result c.args.out.now.items c.write_bytes-in-Plain.new.out.items c.write_plain-in-Plain.new.out.items (2 ∷ []) _ _ c.in_ok-write_bytes-in-Plain.ensures c.write_plain-in-Plain.ensures.written (ap body_bytes c.in-Plain.is)
