use Rattle.std.proofs.Common.{◌<◌, ◌∙◌, ℕ, get_or, length, sym, ap, arith}
use Rattle.std.specs.Ordering.{is_gt}
use Rattle.mr_memtable.specs.Slots.{front_of, front_cmp, no_slot}
use Rattle.mr_memtable.proofs.Fronts.{by_front, front_at, fronts-length}
use Rattle.mr_memtable.proofs.Places.{fit_one}
use Rattle.mr_memtable.proofs.search.is_slot_before.Goals as goal

pub index-other-requires : goal.index-other-requires
index-other-requires c =
    let n = ap length c.args.chunk.now.fronted.same ∙ fronts-length c.args.chunk.now.slots.items in
    omega (arith, n, c.requires.within, c.args.chunk.now.fronts.ok.0, c.args.chunk.now.slots.ok.0)

pub returns-then-front-other : goal.returns-then-front-other
returns-then-front-other c =
    let slots = c.args.chunk.now.slots.items in
    let slot = get_or slots c.args.at no_slot in
    let lt : c.args.at < length slots = omega (arith, c.requires.within, c.args.chunk.now.slots.ok.0) in
    let front = front_at c.args.chunk.now.fronts.items slots c.args.at c.index-other.result.now c.args.chunk.now.fronted.same lt c.index-other.ensures in
    c.is_front_before.ensures
    ∙ ap (λ (m : ℕ). is_gt (front_cmp c.args.direction m c.index-other.result.now)) c.requires.front
    ∙ ap (λ (m : ℕ). is_gt (front_cmp c.args.direction (front_of c.args.key.now) m)) front
    ∙ by_front c.args.direction c.args.pieces.now c.args.key.now c.args.sequence slot (λ i. omega (arith, c.type_inv.key i)) (fit_one c.args.pieces.now slots c.args.at no_slot lt c.requires.fit)
    (λ same. c.if-front-other.true (c.requires.front ∙ same ∙ sym front))
