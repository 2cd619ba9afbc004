use Rattle.mr_acknowledged.proofs.Fronts.{each-counts}
use Rattle.mr_acknowledged.proofs.longest_fronts_are_acknowledged.Goals as goal

pub returns : goal.returns
returns c = each-counts
