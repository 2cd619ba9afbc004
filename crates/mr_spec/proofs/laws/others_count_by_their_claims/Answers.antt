use Rattle.mr_spec.proofs.Others.{moved-outcome_of}
use Rattle.mr_spec.proofs.laws.others_count_by_their_claims.Goals as goal

pub returns : goal.returns
returns c = moved-outcome_of
