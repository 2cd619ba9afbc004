use Rattle.mr_memcmp.proofs.Keys.{columns_in_order as law}
use Rattle.mr_memcmp.proofs.laws.columns_in_order.Goals as goal

pub returns : goal.returns
returns c = law
