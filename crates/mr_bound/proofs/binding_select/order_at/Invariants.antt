use Rattle.std.proofs.Common.{◌≡◌, map, take}
use Rattle.mr_bound.specs.BoundSelects.{order_at}
use Rattle.mr_bound.proofs.binding_select.order_at.Given as goal

abbrev pub invariant-loop-item : goal.invariant-loop-item
invariant-loop-item l = l.bound ≡ map (order_at l.def) (take l.item-index l.order)
