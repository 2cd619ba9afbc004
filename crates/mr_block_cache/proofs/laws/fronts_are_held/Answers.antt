use Rattle.mr_block_cache.proofs.Holding.{spans_put, spans_brought, warm_after}
use Rattle.mr_block_cache.proofs.laws.fronts_are_held.Goals as goal

pub returns-clause-put : goal.returns-clause-put
returns-clause-put c = spans_put

pub returns-clause-brought : goal.returns-clause-brought
returns-clause-brought c = spans_brought

pub returns-clause-warm : goal.returns-clause-warm
returns-clause-warm c = warm_after
