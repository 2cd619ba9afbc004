use Rattle.mr_key_claims.proofs.Last.{changed-by-last-commits}
use Rattle.mr_key_claims.proofs.changed.changed_since_is_by_last_commits.Goals as goal

pub returns : goal.returns
returns c = changed-by-last-commits
