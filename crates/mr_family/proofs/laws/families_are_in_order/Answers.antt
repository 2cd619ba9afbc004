use Rattle.mr_family.proofs.Wholes.{family_in_order}
use Rattle.mr_family.proofs.laws.families_are_in_order.Goals as goal

pub returns : goal.returns
returns c = λ f image. family_in_order f image
