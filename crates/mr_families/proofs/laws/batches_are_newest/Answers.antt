use Rattle.mr_families.proofs.Naming.{named_is_newest, others_stay, earlier_stay, views_stay, still_up_to, still_ordered}
use Rattle.mr_families.proofs.laws.batches_are_newest.Goals as goal

pub returns-clause-named : goal.returns-clause-named
returns-clause-named c = λ d family sequence number os o vs. named_is_newest d family sequence number os o vs

pub returns-clause-others : goal.returns-clause-others
returns-clause-others c = λ d family sequence number key os vs. others_stay d family sequence number key os vs

pub returns-clause-earlier : goal.returns-clause-earlier
returns-clause-earlier c = λ d family sequence number key os vs. earlier_stay d family sequence number key os vs

pub returns-clause-views : goal.returns-clause-views
returns-clause-views c = λ d family sequence number os vs. views_stay d family sequence (λ n v ws. c.views_without_later.ensures d n v ws) number os vs

pub returns-clause-up_to : goal.returns-clause-up_to
returns-clause-up_to c = λ d family sequence os vs. still_up_to d family sequence os vs

pub returns-clause-ordered : goal.returns-clause-ordered
returns-clause-ordered c = λ d family sequence os vs. still_ordered d family sequence os vs
