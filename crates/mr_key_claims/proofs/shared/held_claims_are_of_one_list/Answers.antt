use Rattle.mr_key_claims.proofs.Shares.{held-by-claims}
use Rattle.mr_key_claims.proofs.shared.held_claims_are_of_one_list.Goals as goal

pub returns : goal.returns
returns c = held-by-claims
