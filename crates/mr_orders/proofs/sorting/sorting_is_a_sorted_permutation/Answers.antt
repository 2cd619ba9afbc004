use Rattle.mr_orders.proofs.Sorts.{is-sorted}
use Rattle.mr_orders.proofs.Totals.{primary_total, order_total}
use Rattle.mr_orders.proofs.sorting.sorting_is_a_sorted_permutation.Goals as goal

pub returns-clause-sorts : goal.returns-clause-sorts
returns-clause-sorts c = is-sorted

pub returns-clause-primary : goal.returns-clause-primary
returns-clause-primary c = primary_total

pub returns-clause-order : goal.returns-clause-order
returns-clause-order c = order_total
