use Rattle.mr_iter.proofs.Newer.{newest_merged}
use Rattle.mr_iter.proofs.laws.newest_of_merged.Goals as goal

pub returns : goal.returns
returns c = newest_merged
