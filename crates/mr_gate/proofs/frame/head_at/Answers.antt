use Rattle.std.proofs.Common.{arith}
use Rattle.mr_base.specs.Disk.{file_of}
use Rattle.mr_gate.proofs.Find.{head_gate, head_size}
use Rattle.mr_gate.proofs.frame.head_at.Goals as goal

pub returns-clause-gate : goal.returns-clause-gate
returns-clause-gate g c tells inside =
    let bytes = (file_of (g.D.Disk.disk c.args.disk.now) c.args.file).bytes in
    head_gate bytes c.read.new.out c.args.place c.in_ok-read.field-0 (c.in_ok-read.ensures.bytes tells) (omega (arith, c.in_ok-read.ensures.count tells, inside))

pub returns-clause-size : goal.returns-clause-size
returns-clause-size g c tells long =
    let bytes = (file_of (g.D.Disk.disk c.args.disk.now) c.args.file).bytes in
    head_size bytes c.read.new.out c.args.place c.in_ok-read.field-0 (c.in_ok-read.ensures.bytes tells) (omega (arith, c.in_ok-read.ensures.count tells, long)) c.from_be_bytes.result c.from_be_bytes.ensures
