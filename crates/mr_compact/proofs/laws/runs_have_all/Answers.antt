use Rattle.std.specs.Prelude.{[]}
use Rattle.mr_compact.proofs.Keeping.{joined_runs}
use Rattle.mr_compact.proofs.laws.runs_have_all.Goals as goal

pub returns : goal.returns
returns c = λ vs. joined_runs [] vs
