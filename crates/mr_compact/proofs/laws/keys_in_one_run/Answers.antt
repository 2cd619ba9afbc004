use Rattle.std.specs.Prelude.{[]}
use Rattle.mr_compact.proofs.Cutting.{one_run}
use Rattle.mr_compact.proofs.laws.keys_in_one_run.Goals as goal

pub returns : goal.returns
returns c = λ d key vs all. one_run d key [] vs all
