use Rattle.mr_key_claims.proofs.Claims.{clash-by-claims}
use Rattle.mr_key_claims.proofs.shared.rows_clash_by_their_claims.Goals as goal

pub returns : goal.returns
returns c = clash-by-claims
