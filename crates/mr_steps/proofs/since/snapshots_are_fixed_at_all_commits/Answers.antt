use Rattle.mr_steps.proofs.SinceOpening.{first-fixed, begun-fixed}
use Rattle.mr_steps.proofs.since.snapshots_are_fixed_at_all_commits.Goals as goal

pub returns-clause-first : goal.returns-clause-first
returns-clause-first c = first-fixed

pub returns-clause-begun : goal.returns-clause-begun
returns-clause-begun c = begun-fixed
