use Rattle.mr_memtable.specs.Chunks.{sizes}
use Rattle.mr_memtable.specs.Tables.{versions_in, flat}
use Rattle.mr_flush.proofs.Steps.{memory_cursor, memory_order, all_written}
use Rattle.mr_flush.proofs.writing.write_memtable.Goals as goal

pub returns-clause-written : goal.returns-clause-written
returns-clause-written g c =
    let m = c.args.memtable.now in
    let k = c.cursor-cursor.result in
    let t = k.table.now in
    all_written c.args.direction m (memory_cursor k) (memory_cursor c.add_all.new.cursor) c.new-writer.result c.add_all.new.writer (g.D.Disk.disk c.args.disk.now) (g.D.Disk.disk c.add_all.new.disk) c.cursor-cursor.ensures.state c.in_ok-add_all.ensures.at_end c.in_ok-add_all.ensures.adds
    (g.D.Disk.disk c.finish.new.disk) c.finish.result c.new-writer.ensures.empty c.new-writer.ensures.entries c.requires.some c.requires.direction (memory_order t.direction (versions_in t.bytes.items t.chunks.items) (flat (sizes t.chunks.items) k.chunk k.at) m c.cursor-cursor.ensures.state t.kept.ordered)
    c.finish.ensures.named c.finish.ensures.length c.finish.ensures.counted c.finish.ensures.written c.finish.ensures.durable
