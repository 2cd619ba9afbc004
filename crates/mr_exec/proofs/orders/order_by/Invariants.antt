use Rattle.std.proofs.Common.{◌≡◌, drop}
use Rattle.mr_bound.specs.BoundSelects.{order_by}
use Rattle.mr_exec.proofs.orders.order_by.Given as goal

abbrev pub invariant-loop-item : goal.invariant-loop-item
invariant-loop-item l = order_by l.def (drop l.item-index l.order) l.r l.s ≡ order_by l.def l.order l.r l.s
