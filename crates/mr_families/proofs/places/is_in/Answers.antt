use Rattle.std.proofs.Common.{◌∙◌}
use Rattle.mr_families.proofs.Numbering.{told}
use Rattle.mr_families.proofs.places.is_in.Goals as goal

pub returns : goal.returns
returns c = c.is_ok.ensures.value ∙ told c.args.list.now c.args.number c.place_of.result c.place_of.ensures.found c.place_of.ensures.absent
