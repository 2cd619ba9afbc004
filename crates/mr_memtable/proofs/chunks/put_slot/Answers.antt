use Rattle.std.proofs.Common.{◌≡◌, ◌<◌, ◌≤◌, length, get_or, arith, vec_len}
use Rattle.std.proofs.lemmas.Grind.{common_steps}
use Rattle.mr_memtable.specs.Chunks.{sizes}
use Rattle.mr_memtable.proofs.ChunkLaws.{size_is, length-sizes}
use Rattle.mr_memtable.proofs.Filling.{spare_left, all-at}
use Rattle.mr_memtable.proofs.chunks.put_slot.Goals as goal

pub put_full-requires-clause-some : goal.put_full-requires-clause-some
put_full-requires-clause-some c =
    let n = length-sizes c.args.chunks.now.items in
    let some_chunk : 0 < vec_len c.args.chunks.now = grind (arith, common_steps, c.is_empty.ensures, c.if-is_empty.false) in
    let lt : c.args.i < length c.args.chunks.now.items = omega (arith, c.requires.chunk some_chunk, c.args.chunks.now.ok.0) in
    let e = size_is c.args.chunks.now.items c.args.i c.index.result.now lt c.index.ensures in
    let most : get_or (sizes c.args.chunks.now.items) c.args.i 0 ≤ 256 = all-at (λ m. m ≤ 256) (sizes c.args.chunks.now.items) c.args.i (omega (arith, n, lt)) c.requires.filled.most in
    let full : get_or (sizes c.args.chunks.now.items) c.args.i 0 ≡ 256 = omega (arith, e, most, c.if-len.true, c.len.ensures, c.index.result.now.slots.ok.0) in
    let some : 0 < vec_len c.args.spares.now = spare_left (sizes c.args.chunks.now.items) c.args.i (vec_len c.args.spares.now) c.requires.filled (omega (arith, n, lt)) full (omega (arith, n, c.requires.some, c.args.chunks.now.ok.0)) in
    some

pub put_full-requires-clause-room : goal.put_full-requires-clause-room
put_full-requires-clause-room c =
    let n = length-sizes c.args.chunks.now.items in
    let some_chunk : 0 < vec_len c.args.chunks.now = grind (arith, common_steps, c.is_empty.ensures, c.if-is_empty.false) in
    let lt : c.args.i < length c.args.chunks.now.items = omega (arith, c.requires.chunk some_chunk, c.args.chunks.now.ok.0) in
    let e = size_is c.args.chunks.now.items c.args.i c.index.result.now lt c.index.ensures in
    let most : get_or (sizes c.args.chunks.now.items) c.args.i 0 ≤ 256 = all-at (λ m. m ≤ 256) (sizes c.args.chunks.now.items) c.args.i (omega (arith, n, lt)) c.requires.filled.most in
    let full : get_or (sizes c.args.chunks.now.items) c.args.i 0 ≡ 256 = omega (arith, e, most, c.if-len.true, c.len.ensures, c.index.result.now.slots.ok.0) in
    let some : 0 < vec_len c.args.spares.now = spare_left (sizes c.args.chunks.now.items) c.args.i (vec_len c.args.spares.now) c.requires.filled (omega (arith, n, lt)) full (omega (arith, n, c.requires.some, c.args.chunks.now.ok.0)) in
    omega (arith, some, c.requires.room)
