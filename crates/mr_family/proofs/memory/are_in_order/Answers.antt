use Rattle.mr_memtable.specs.Chunks.{sizes}
use Rattle.mr_memtable.specs.Tables.{versions_in, flat}
use Rattle.mr_family.proofs.Wholes.{told_order}
use Rattle.mr_family.proofs.memory.are_in_order.Goals as goal

pub returns-clause-memtable : goal.returns-clause-memtable
returns-clause-memtable c =
    let t = c.cursor-first.result.table.now in
    told_order t.direction (versions_in t.bytes.items t.chunks.items) (flat (sizes t.chunks.items) c.cursor-first.result.chunk c.cursor-first.result.at) c.args.memtable.now c.cursor-first.ensures.state t.kept.ordered
