use Rattle.mr_iter.proofs.Views.{view_once}
use Rattle.mr_iter.proofs.laws.view_has_keys_once.Goals as goal

pub returns : goal.returns
returns c = view_once
