use Rattle.mr_iter.proofs.Newest.{view_newest}
use Rattle.mr_iter.proofs.laws.views_have_the_newest.Goals as goal

pub returns : goal.returns
returns c = view_newest
