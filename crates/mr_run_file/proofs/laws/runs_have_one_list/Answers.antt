use Rattle.mr_run_file.proofs.Lists.{one_ordered, counted_ordered, ordered}
use Rattle.mr_run_file.proofs.laws.runs_have_one_list.Goals as goal

pub returns-clause-one : goal.returns-clause-one
returns-clause-one c = one_ordered

pub returns-clause-entries : goal.returns-clause-entries
returns-clause-entries c = counted_ordered

pub returns-clause-order : goal.returns-clause-order
returns-clause-order c = ordered
