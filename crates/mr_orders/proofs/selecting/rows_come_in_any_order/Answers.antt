use Rattle.std.proofs.Common.{ap}
use Rattle.mr_spec.specs.Select.{selected}
use Rattle.mr_orders.proofs.Rising.{any-order}
use Rattle.mr_orders.proofs.selecting.rows_come_in_any_order.Goals as goal

pub returns : goal.returns
returns c = λ def s w rows others once p. ap (selected def s w) (any-order def rows others once p)
