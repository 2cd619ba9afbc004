use Rattle.mr_iter.proofs.Newer.{newest_found, newest_others, newest_placed}
use Rattle.mr_iter.proofs.laws.newest_with_version.Goals as goal

pub returns-clause-found : goal.returns-clause-found
returns-clause-found c = newest_found

pub returns-clause-others : goal.returns-clause-others
returns-clause-others c = newest_others

pub returns-clause-all : goal.returns-clause-all
returns-clause-all c = newest_placed
