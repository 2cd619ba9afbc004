use Rattle.std.proofs.Common.{◌∙◌, ℕ, ap, arith}
use Rattle.std.specs.Ordering.{is_gt}
use Rattle.mr_memtable.specs.Slots.{front_cmp}
use Rattle.mr_memtable.proofs.Fronts.{by_front}
use Rattle.mr_memtable.proofs.slot.is_before.Goals as goal

pub returns-then-front-slot : goal.returns-then-front-slot
returns-then-front-slot c =
    let slot = c.args.slot.now in
    c.is_front_before.ensures
    ∙ ap (λ (m : ℕ). is_gt (front_cmp c.args.direction m slot.front)) c.requires.front
    ∙ by_front c.args.direction c.args.pieces.now c.args.key.now c.args.sequence slot (λ i. omega (arith, c.type_inv.key i)) c.requires.fits
    (λ same. c.if-front-slot.true (c.requires.front ∙ same))
