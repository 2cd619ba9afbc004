use Rattle.mr_memcmp.proofs.Ranges.{keys_in_range as law}
use Rattle.mr_memcmp.proofs.laws.keys_in_range.Goals as goal

pub returns : goal.returns
returns c = law
