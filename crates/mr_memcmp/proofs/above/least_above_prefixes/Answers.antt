use Rattle.mr_memcmp.proofs.Behind.{least_above_prefixes as law}
use Rattle.mr_memcmp.proofs.above.least_above_prefixes.Goals as goal

pub returns : goal.returns
returns c = law
