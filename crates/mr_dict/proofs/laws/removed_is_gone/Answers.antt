use Rattle.mr_dict.proofs.Finding.{removed_lacks}
use Rattle.mr_dict.proofs.laws.removed_is_gone.Goals as goal

pub returns : goal.returns
returns c = removed_lacks
