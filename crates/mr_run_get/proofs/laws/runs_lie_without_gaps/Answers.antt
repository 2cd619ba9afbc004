use Rattle.mr_run_get.proofs.Gapless.{gapless_index}
use Rattle.mr_run_get.proofs.laws.runs_lie_without_gaps.Goals as goal

pub returns : goal.returns
returns c = gapless_index
