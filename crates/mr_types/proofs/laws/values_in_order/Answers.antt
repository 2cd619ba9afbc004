use Rattle.mr_types.proofs.Total.{in_order_of_values}
use Rattle.mr_types.proofs.laws.values_in_order.Goals as goal

pub returns : goal.returns
returns c = in_order_of_values
