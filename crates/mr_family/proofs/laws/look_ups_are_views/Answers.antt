use Rattle.mr_family.specs.Family.{direction, versions}
use Rattle.mr_family.proofs.Wholes.{family_in_order}
use Rattle.mr_family.proofs.laws.look_ups_are_views.Goals as goal

pub returns : goal.returns
returns c = λ f image number key. c.view_has_newest.ensures (direction f) number key (versions f image) (family_in_order f image)
