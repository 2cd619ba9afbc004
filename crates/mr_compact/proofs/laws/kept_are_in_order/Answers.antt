use Rattle.std.specs.Prelude.{None}
use Rattle.mr_compact.proofs.Keeping.{kept_in_order}
use Rattle.mr_compact.proofs.laws.kept_are_in_order.Goals as goal

pub returns : goal.returns
returns c = λ d oldest bottom keeps vs all. kept_in_order oldest bottom keeps d None vs all
