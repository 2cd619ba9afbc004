use Rattle.mr_acknowledged.proofs.Fronts.{has-longest}
use Rattle.mr_acknowledged.proofs.outputs_have_a_longest_front.Goals as goal

pub returns : goal.returns
returns c = has-longest
