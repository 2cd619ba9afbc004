use Rattle.mr_orders.proofs.Ties.{ties-by-key}
use Rattle.mr_orders.proofs.selecting.ties_go_by_the_primary_key.Goals as goal

pub returns : goal.returns
returns c = ties-by-key
