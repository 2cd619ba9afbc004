use Rattle.mr_run_file.proofs.Written.{is_read_back}
use Rattle.mr_run_file.proofs.laws.written_runs_are_read.Goals as goal

pub returns : goal.returns
returns c = is_read_back
