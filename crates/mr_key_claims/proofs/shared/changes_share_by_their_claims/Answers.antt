use Rattle.mr_key_claims.proofs.Shares.{share-by-claims}
use Rattle.mr_key_claims.proofs.shared.changes_share_by_their_claims.Goals as goal

pub returns : goal.returns
returns c = share-by-claims
