use Rattle.std.proofs.Common.{◌<◌, ◌∙◌, ap, length, set, arith}
use Rattle.std.proofs.lemmas.List.Edits.{length-insert}
use Rattle.mr_memtable.specs.Chunks.{sizes}
use Rattle.mr_memtable.proofs.ChunkLaws.{size_is, listed-set, sizes-set}
use Rattle.mr_memtable.proofs.chunks.insert_at.Goals as goal

pub returns-clause-list : goal.returns-clause-list
returns-clause-list c =
    let lt : c.args.i < length c.args.chunks.now.items = omega (arith, c.requires.within, c.args.chunks.now.ok.0) in
    let e = size_is c.args.chunks.now.items c.args.i c.index_mut.result.now lt c.index_mut.ensures.value in
    listed-set c.args.chunks.now.items c.args.i c.index_mut.result.now c.insert.new.self c.args.place c.args.slot lt c.index_mut.ensures.value (omega (arith, e, c.requires.place)) c.insert.ensures.items

pub returns-clause-sizes : goal.returns-clause-sizes
returns-clause-sizes c =
    let lt : c.args.i < length c.args.chunks.now.items = omega (arith, c.requires.within, c.args.chunks.now.ok.0) in
    let e = size_is c.args.chunks.now.items c.args.i c.index_mut.result.now lt c.index_mut.ensures.value in
    sizes-set c.args.chunks.now.items c.args.i c.insert.new.self
    ∙ ap (λ n. set (sizes c.args.chunks.now.items) c.args.i n) (ap length c.insert.ensures.items ∙ length-insert c.index_mut.result.now.slots.items c.args.place c.args.slot (omega (arith, e, c.requires.place)) ∙ omega (arith, e))
