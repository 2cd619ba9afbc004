use Rattle.mr_steps.proofs.Weighing.{view-def, view-weight, view-light}
use Rattle.mr_steps.proofs.weights.changes_are_light_in_their_view.Goals as goal

pub returns-clause-same : goal.returns-clause-same
returns-clause-same c = λ w name kept. view-def w.commits w.here.txn name kept

pub returns-clause-weight : goal.returns-clause-weight
returns-clause-weight c = view-weight

pub returns-clause-light : goal.returns-clause-light
returns-clause-light c = view-light
