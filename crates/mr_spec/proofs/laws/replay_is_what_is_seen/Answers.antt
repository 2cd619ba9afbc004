use Rattle.mr_spec.proofs.Runs.{view-behind}
use Rattle.mr_spec.proofs.laws.replay_is_what_is_seen.Goals as goal

pub returns-clause-behind : goal.returns-clause-behind
returns-clause-behind c = view-behind
