use Rattle.mr_steps.proofs.SinceOpening.{opened-since, step-since, run-since}
use Rattle.mr_steps.proofs.since.snapshots_lie_since_the_opening.Goals as goal

pub returns-clause-opened : goal.returns-clause-opened
returns-clause-opened c = opened-since

pub returns-clause-after : goal.returns-clause-after
returns-clause-after c = step-since

pub returns-clause-run : goal.returns-clause-run
returns-clause-run c = run-since
