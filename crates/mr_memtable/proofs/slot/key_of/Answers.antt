use Rattle.std.proofs.Common.{◌∙◌, ℕ, List, length, sym, ap, arith}
use Rattle.mr_memtable.specs.Slots.{part}
use Rattle.mr_memtable.proofs.Pieces.{text_got}
use Rattle.mr_memtable.proofs.slot.key_of.Goals as goal

pub part_of-requires-clause-order : goal.part_of-requires-clause-order
part_of-requires-clause-order c = c.requires.fits.places.key

pub part_of-requires-clause-within : goal.part_of-requires-clause-within
part_of-requires-clause-within c =
    let e = ap length (text_got c.args.pieces.now c.args.slot.now.piece c.index-pieces-slot.result c.requires.fits.piece ∙ sym c.deref.ensures.value) in
    omega (arith, c.requires.fits.places.value, c.requires.fits.places.within, e)

pub returns : goal.returns
returns c =
    c.part_of.ensures ∙ ap (λ (text : List ℕ). part text c.args.slot.now.start c.args.slot.now.middle) (c.deref.ensures.value ∙ sym (text_got c.args.pieces.now c.args.slot.now.piece c.index-pieces-slot.result c.requires.fits.piece))
