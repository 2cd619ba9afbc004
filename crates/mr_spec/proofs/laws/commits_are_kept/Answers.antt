use Rattle.mr_spec.proofs.Commits.{further-step}
use Rattle.mr_spec.proofs.laws.commits_are_kept.Goals as goal

pub returns : goal.returns
returns c = further-step
