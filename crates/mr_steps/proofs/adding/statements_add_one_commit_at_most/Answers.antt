use Rattle.mr_steps.proofs.Added.{statement-adds, unread-adds, adds-few}
use Rattle.mr_steps.proofs.adding.statements_add_one_commit_at_most.Goals as goal

pub returns-clause-adds : goal.returns-clause-adds
returns-clause-adds c = statement-adds

pub returns-clause-unread : goal.returns-clause-unread
returns-clause-unread c = unread-adds

pub returns-clause-few : goal.returns-clause-few
returns-clause-few c = adds-few
