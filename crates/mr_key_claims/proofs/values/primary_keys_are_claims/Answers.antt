use Rattle.mr_key_claims.proofs.Claims.{primary-by-claim}
use Rattle.mr_key_claims.proofs.values.primary_keys_are_claims.Goals as goal

pub returns : goal.returns
returns c = primary-by-claim
