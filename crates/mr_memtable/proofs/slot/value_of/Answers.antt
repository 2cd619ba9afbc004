use Rattle.std.proofs.Common.{◌∙◌, ℕ, List, length, sym, ap, arith, Some}
use Rattle.mr_memtable.specs.Slots.{part}
use Rattle.mr_memtable.proofs.Pieces.{text_got}
use Rattle.mr_memtable.proofs.slot.value_of.Goals as goal

pub part_of-requires-clause-order : goal.part_of-requires-clause-order
part_of-requires-clause-order c = c.requires.fits.places.value

pub part_of-requires-clause-within : goal.part_of-requires-clause-within
part_of-requires-clause-within c =
    let e = ap length (text_got c.args.pieces.now c.args.slot.now.piece c.index-pieces-slot.result c.requires.fits.piece ∙ sym c.deref.ensures.value) in
    omega (arith, c.requires.fits.places.within, e)

pub returns-then-slot-clause-value : goal.returns-then-slot-clause-value
returns-then-slot-clause-value c =
    let is = c.if-slot.true in
    rw is (c.part_of.ensures ∙ ap (λ (text : List ℕ). part text c.args.slot.now.middle c.args.slot.now.end) (c.deref.ensures.value ∙ sym (text_got c.args.pieces.now c.args.slot.now.piece c.index-pieces-slot.result c.requires.fits.piece)))

pub returns-then-slot-clause-put : goal.returns-then-slot-clause-put
returns-then-slot-clause-put c =
    let is = c.if-slot.true in
    rw is (ap Some (c.part_of.ensures ∙ ap (λ (text : List ℕ). part text c.args.slot.now.middle c.args.slot.now.end) (c.deref.ensures.value ∙ sym (text_got c.args.pieces.now c.args.slot.now.piece c.index-pieces-slot.result c.requires.fits.piece))))
