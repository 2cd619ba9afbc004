use Rattle.mr_same_worlds.proofs.Openings.{opening-tidy}
use Rattle.mr_same_worlds.proofs.tidiness.openings_are_tidy.Goals as goal

pub returns : goal.returns
returns c = opening-tidy
