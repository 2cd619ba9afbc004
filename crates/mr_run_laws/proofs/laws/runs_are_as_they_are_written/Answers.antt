use Rattle.mr_run_laws.proofs.Whole.{only_written}
use Rattle.mr_run_laws.proofs.laws.runs_are_as_they_are_written.Goals as goal

pub returns : goal.returns
returns c = only_written
