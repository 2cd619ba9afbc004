use Rattle.mr_block_cache.proofs.Holding.{warm_after}
use Rattle.mr_levels.specs.Looks.{looked, key_spans}
use Rattle.mr_levels.proofs.laws.look_ups_leave_warm.Goals as goal

pub returns : goal.returns
returns c = λ key s old new sorted brings few. warm_after (key_spans key (looked key s)) old new few (brings sorted)
