use Rattle.std.proofs.Common.{None}
use Rattle.mr_claims.proofs.Keys.{updated}
use Rattle.mr_claims.proofs.entries.remove.Goals as goal

pub returns : goal.returns
returns c = updated c.args.claim.now c.args.entries.now c.remove.new.self None c.remove.ensures.updates
