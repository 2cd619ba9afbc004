use Rattle.mr_block_cache.proofs.Holding.{agrees_put, agrees_brought, agrees_held}
use Rattle.mr_block_cache.proofs.laws.caches_stay_true.Goals as goal

pub returns-clause-put : goal.returns-clause-put
returns-clause-put c = agrees_put

pub returns-clause-brought : goal.returns-clause-brought
returns-clause-brought c = agrees_brought

pub returns-clause-held : goal.returns-clause-held
returns-clause-held c = agrees_held
