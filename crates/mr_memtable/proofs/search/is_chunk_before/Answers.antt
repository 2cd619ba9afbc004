use Rattle.std.proofs.Common.{◌<◌, ◌∙◌, ℕ, get_or, length, sym, ap, arith}
use Rattle.std.specs.Ordering.{is_gt}
use Rattle.mr_memtable.specs.Slots.{front_cmp, no_slot}
use Rattle.mr_memtable.proofs.Fronts.{by_front, front_is}
use Rattle.mr_memtable.proofs.Places.{fit_one}
use Rattle.mr_memtable.proofs.search.is_chunk_before.Goals as goal

pub returns-then-front-chunk : goal.returns-then-front-chunk
returns-then-front-chunk c =
    let slots = c.args.chunk.now.slots.items in
    let slot = get_or slots 0 no_slot in
    let some : 0 < length slots = omega (arith, c.requires.some, c.args.chunk.now.slots.ok.0) in
    let front = front_is c.args.chunk.now.front c.args.chunk.now.fronts.items slots some c.args.chunk.now.fronted.same c.args.chunk.now.fronted.first in
    c.is_front_before.ensures
    ∙ ap (λ (m : ℕ). is_gt (front_cmp c.args.direction m c.args.chunk.now.front)) c.requires.front
    ∙ ap (λ (m : ℕ). is_gt (front_cmp c.args.direction (Rattle.mr_memtable.specs.Slots.front_of c.args.key.now) m)) front
    ∙ by_front c.args.direction c.args.pieces.now c.args.key.now c.args.sequence slot (λ i. omega (arith, c.type_inv.key i)) (fit_one c.args.pieces.now slots 0 no_slot some c.requires.fit)
    (λ same. c.if-front-chunk.true (c.requires.front ∙ same ∙ sym front))
