use Rattle.mr_iter.specs.Versions.{version_cmp}
use Rattle.mr_iter.specs.Order.{version_total}
use Rattle.mr_iter.proofs.Placing.{first_child}
use Rattle.mr_iter.proofs.laws.place_in_first_child.Goals as goal

pub returns : goal.returns
returns c = λ d v vs more. first_child (version_cmp d) (version_total d) v vs more
