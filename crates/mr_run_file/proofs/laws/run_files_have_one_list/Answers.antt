use Rattle.mr_run_file.proofs.Lists.{one_list, counted}
use Rattle.mr_run_file.proofs.laws.run_files_have_one_list.Goals as goal

pub returns-clause-one : goal.returns-clause-one
returns-clause-one c = one_list

pub returns-clause-entries : goal.returns-clause-entries
returns-clause-entries c = counted
