use Rattle.mr_key_claims.proofs.Claims.{told-apart}
use Rattle.mr_key_claims.proofs.values.claims_are_told_apart.Goals as goal

pub returns : goal.returns
returns c = told-apart
