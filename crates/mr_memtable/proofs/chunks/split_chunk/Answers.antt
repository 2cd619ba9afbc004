use Rattle.std.proofs.Common.{◌≡◌, ◌<◌, ◌≤◌, ◌+◌, ℕ, List, length, set, ◌∙◌, ap, arith, length-drop, length-take, subst, sym}
use Rattle.std.specs.List.{insert}
use Rattle.mr_memtable.proofs.ChunkLaws.{size_is, room_is, listed-split, sizes-set, sizes-insert, rooms-set, rooms-insert}
use Rattle.std.proofs.Math.ListN.{length-set}
use Rattle.mr_memtable.specs.declared.chunk.Chunk.{Chunk}
use Rattle.mr_memtable.specs.Chunks.{listed, sizes, HaveRoom}
use Rattle.mr_memtable.proofs.chunks.split_chunk.Goals as goal

pub returns : goal.returns
returns c =
    let lt : c.args.i < length c.args.chunks.now.items = omega (arith, c.requires.within, c.args.chunks.now.ok.0) in
    let e = size_is c.args.chunks.now.items c.args.i c.index_mut.result.now lt c.index_mut.ensures.value in
    let r = room_is c.args.chunks.now.items c.args.i c.index_mut.result.now lt c.index_mut.ensures.value c.requires.rooms in
    let low : Chunk = c.split-second.new.self in
    let high : Chunk = c.split-second.result in
    let nh : length high.slots.items ≡ 128 = ap length c.split-second.ensures.high ∙ length-drop 128 c.index_mut.result.now.slots.items ∙ omega (arith, e, c.requires.full) in
    let nl : length low.slots.items ≡ 128 = ap length c.split-second.ensures.low ∙ length-take 128 c.index_mut.result.now.slots.items ∙ omega (arith, e, c.requires.full) in
    let m : c.args.i + 1 ≤ length (set c.args.chunks.now.items c.args.i low) = omega (arith, lt, length-set c.args.chunks.now.items c.args.i low) in
    record {
      list = ap listed c.put_within.ensures.list
          ∙ listed-split c.args.chunks.now.items c.args.i c.index_mut.result.now low high 128 lt c.index_mut.ensures.value c.split-second.ensures.low c.split-second.ensures.high;
      sizes = ap sizes c.put_within.ensures.list
          ∙ sizes-insert (set c.args.chunks.now.items c.args.i low) (c.args.i + 1) high m
          ∙ ap (λ (n : ℕ). insert (sizes (set c.args.chunks.now.items c.args.i low)) (c.args.i + 1) n) nh
          ∙ ap (λ (ns : List ℕ). insert ns (c.args.i + 1) 128) (sizes-set c.args.chunks.now.items c.args.i low ∙ ap (λ (n : ℕ). set (sizes c.args.chunks.now.items) c.args.i n) nl);
      rooms = subst HaveRoom (sym c.put_within.ensures.list) (rooms-insert (set c.args.chunks.now.items c.args.i low) (c.args.i + 1) high m (rooms-set c.args.chunks.now.items c.args.i low c.requires.rooms (omega (arith, r, c.split-second.ensures.capacity))) (omega (arith, c.requires.fits, c.split-second.ensures.fits)));
      count = omega (arith, c.put_within.ensures.count);
      capacity = omega (arith, c.put_within.ensures.capacity);
    }
