use Rattle.mr_orders.proofs.Rising.{key-order-ascends, one-ascending, ascending-once}
use Rattle.mr_orders.proofs.sorting.ascending_rows_are_one_list.Goals as goal

pub returns-clause-ascends : goal.returns-clause-ascends
returns-clause-ascends c = key-order-ascends

pub returns-clause-one : goal.returns-clause-one
returns-clause-one c = one-ascending

pub returns-clause-once : goal.returns-clause-once
returns-clause-once c = ascending-once
