use Rattle.mr_memcmp.proofs.Behind.{prefixes_are_ranges as law}
use Rattle.mr_memcmp.proofs.above.prefixes_are_ranges.Goals as goal

pub returns : goal.returns
returns c = law
