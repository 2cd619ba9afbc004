use Rattle.mr_memcmp.proofs.GivenParts.{parts_in_range as law}
use Rattle.mr_memcmp.proofs.parts.parts_in_range.Goals as goal

pub returns : goal.returns
returns c = law
