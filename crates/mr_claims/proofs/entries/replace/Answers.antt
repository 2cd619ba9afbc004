use Rattle.std.proofs.Common.{Some, rules}
use Rattle.mr_claims.proofs.Keys.{updated}
use Rattle.mr_claims.proofs.entries.replace.Goals as goal

pub returns-in-Some : goal.returns-in-Some
returns-in-Some c = updated c.args.claim.now c.args.entries.now (c.get_mut.follows.lender c.args.entry) (Some c.args.entry) ((c.get_mut.follows.holds c.args.entry).3 (search rules))
