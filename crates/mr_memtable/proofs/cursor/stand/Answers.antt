use Rattle.std.proofs.Common.{◌<◌, ◌≤◌, length, get_or, arith}
use Rattle.mr_memtable.specs.Chunks.{sizes}
use Rattle.mr_memtable.proofs.ChunkLaws.{size_is, length-sizes}
use Rattle.mr_memtable.proofs.Stands.{sum_more}
use Rattle.mr_memtable.proofs.cursor.stand.Goals as goal

pub returns-then-place-len-2-clause-flat : goal.returns-then-place-len-2-clause-flat
returns-then-place-len-2-clause-flat c =
    let lt : c.args.place.chunk < length c.args.table.now.chunks.items = omega (arith, c.if-place-len.true, c.len.ensures, c.args.table.now.chunks.ok.0) in
    let e = size_is c.args.table.now.chunks.items c.args.place.chunk c.index.result.now lt c.index.ensures in
    let upto : c.args.place.at ≤ get_or (sizes c.args.table.now.chunks.items) c.args.place.chunk 0 = c.requires.at lt in
    omega (arith, sum_more (sizes c.args.table.now.chunks.items) c.args.place.chunk (omega (arith, lt, length-sizes c.args.table.now.chunks.items)), e, upto, c.if-place-len-2.true, c.len-then-place-len.ensures, c.index.result.now.slots.ok.0)
