use Rattle.mr_orders.proofs.Tables.{view-selection}
use Rattle.mr_orders.proofs.selecting.selections_of_views_are_of_any_order.Goals as goal

pub returns : goal.returns
returns c = view-selection
