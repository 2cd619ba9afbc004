use Rattle.std.proofs.Common.{◌<◌, length, arith}
use Rattle.mr_memtable.proofs.ChunkLaws.{size_is}
use Rattle.mr_memtable.proofs.Stands.{on_chunk, on_slot, stands_on, fits_there}
use Rattle.mr_memtable.proofs.cursor.MemCursor.slot.Goals as goal

pub index-requires : goal.index-requires
index-requires c =
    let lt : c.args.self.now.chunk < length c.args.self.now.table.now.chunks.items = on_chunk c.args.self.now.table.now.bytes.items c.args.self.now.table.now.chunks.items c.args.self.now.chunk c.args.self.now.at c.args.self.now.standing c.requires in
    omega (arith, lt, c.args.self.now.table.now.chunks.ok.0)

pub index-requires-2 : goal.index-requires-2
index-requires-2 c =
    let lt : c.args.self.now.chunk < length c.args.self.now.table.now.chunks.items = on_chunk c.args.self.now.table.now.bytes.items c.args.self.now.table.now.chunks.items c.args.self.now.chunk c.args.self.now.at c.args.self.now.standing c.requires in
    let here = on_slot c.args.self.now.table.now.bytes.items c.args.self.now.table.now.chunks.items c.args.self.now.chunk c.args.self.now.at c.args.self.now.standing lt in
    omega (arith, here, size_is c.args.self.now.table.now.chunks.items c.args.self.now.chunk c.index.result.now lt c.index.ensures, c.index.result.now.slots.ok.0)

pub returns-clause-fits : goal.returns-clause-fits
returns-clause-fits c =
    let lt : c.args.self.now.chunk < length c.args.self.now.table.now.chunks.items = on_chunk c.args.self.now.table.now.bytes.items c.args.self.now.table.now.chunks.items c.args.self.now.chunk c.args.self.now.at c.args.self.now.standing c.requires in
    fits_there c.args.self.now.table.now.bytes.items c.args.self.now.table.now.chunks.items c.args.self.now.chunk c.args.self.now.at c.args.self.now.standing c.index.result.now c.index-2.result.now lt c.index.ensures c.index-2.ensures c.args.self.now.table.now.kept.fit

pub returns-clause-current : goal.returns-clause-current
returns-clause-current c =
    let lt : c.args.self.now.chunk < length c.args.self.now.table.now.chunks.items = on_chunk c.args.self.now.table.now.bytes.items c.args.self.now.table.now.chunks.items c.args.self.now.chunk c.args.self.now.at c.args.self.now.standing c.requires in
    stands_on c.args.self.now.table.now.bytes.items c.args.self.now.table.now.chunks.items c.args.self.now.chunk c.args.self.now.at c.args.self.now.standing c.index.result.now c.index-2.result.now lt c.index.ensures c.index-2.ensures
