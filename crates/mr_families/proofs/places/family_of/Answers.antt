use Rattle.std.proofs.Common.{◌∙◌, sym, ap}
use Rattle.std.proofs.lemmas.List.{get_or_read}
use Rattle.mr_families.specs.declared.numbered.Numbered.{Numbered}
use Rattle.mr_families.specs.Known.{no_one}
use Rattle.mr_families.proofs.Numbering.{at_place, none_in_gap}
use Rattle.mr_families.proofs.places.family_of.Goals as goal

pub returns-in-Ok : goal.returns-in-Ok
returns-in-Ok c =
    let ns = c.args.list.now in
    let i = c.in-Ok.place in
    let read = get_or_read ns i c.index-list-place.result c.in-Ok.ensures.found.in_range c.index-list-place.is no_one in
    ap (λ (n : Numbered). n.family) (sym c.index-list-place.is ∙ read) ∙ sym (at_place ns c.args.number i c.requires.ascending c.in-Ok.ensures.found)

pub returns-in-Err : goal.returns-in-Err
returns-in-Err c = c.requires.empty ∙ sym (none_in_gap c.args.list.now c.args.number c.in-Err.field-0 c.in-Err.ensures.absent)
