use Rattle.std.proofs.Common.{◌∙◌}
use Rattle.mr_ttl.proofs.Places.{told}
use Rattle.mr_ttl.proofs.lookups.is_dropped.Goals as goal

pub returns : goal.returns
returns c = c.is_ok.ensures.value ∙ told c.args.dropped.now c.requires c.args.index _ c.binary_search.ensures.position
