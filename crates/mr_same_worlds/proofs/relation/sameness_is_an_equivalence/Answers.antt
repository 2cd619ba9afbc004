use Rattle.mr_same_worlds.proofs.Again.{itself, back, on}
use Rattle.mr_same_worlds.proofs.relation.sameness_is_an_equivalence.Goals as goal

pub returns-clause-itself : goal.returns-clause-itself
returns-clause-itself c = itself

pub returns-clause-back : goal.returns-clause-back
returns-clause-back c = back

pub returns-clause-on : goal.returns-clause-on
returns-clause-on c = on
