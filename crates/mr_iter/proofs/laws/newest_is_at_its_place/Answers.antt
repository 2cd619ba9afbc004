use Rattle.mr_iter.proofs.Bounds.{newest_at}
use Rattle.mr_iter.proofs.laws.newest_is_at_its_place.Goals as goal

pub returns : goal.returns
returns c = newest_at
