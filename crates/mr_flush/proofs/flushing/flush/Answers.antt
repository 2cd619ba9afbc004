use Rattle.mr_flush.proofs.Kept.{flushed_of}
use Rattle.mr_flush.proofs.flushing.flush.Goals as goal

pub returns-clause-flush : goal.returns-clause-flush
returns-clause-flush g c =
    flushed_of c.args.file c.in_ok-info.info (g.D.Disk.disk c.args.disk.now) (g.D.Disk.disk c.write_memtable.new.disk) (g.D.Disk.disk c.open_run.new.disk) c.write_memtable.ensures.counts c.open_run.ensures.counts c.open_run.ensures.same
    c.args.memtable.now c.new.result c.args.levels.now c.open_run.new.self c.direction-direction.result c.is_empty.result c.is_empty.ensures c.if-is_empty.false c.requires c.direction-direction.ensures.direction c.in_ok-info.ensures.named c.in_ok-info.ensures.written c.in_ok-open_run.ensures.opened
    c.new.ensures.direction c.new.ensures.versions c.new.ensures.entries c.new.ensures.bytes
