use Rattle.mr_families.proofs.ByPlace.{few_read}
use Rattle.mr_families.proofs.laws.few_reads.Goals as goal

pub returns : goal.returns
returns c = λ key f four. few_read key f four
