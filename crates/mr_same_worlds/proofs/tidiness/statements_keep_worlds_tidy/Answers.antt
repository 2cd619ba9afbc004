use Rattle.mr_same_worlds.proofs.Tidy.{tidy-after}
use Rattle.mr_same_worlds.proofs.tidiness.statements_keep_worlds_tidy.Goals as goal

pub returns : goal.returns
returns c = tidy-after
