use Rattle.mr_row_laws.proofs.PrimaryOrder.{primary_keys_in_order as law}
use Rattle.mr_row_laws.proofs.primary_keys_in_order.Goals as goal

pub returns : goal.returns
returns c = law
