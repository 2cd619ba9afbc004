use Rattle.std.proofs.Common.{◌≡◌, map, take}
use Rattle.mr_bound.specs.BoundUpdates.{set_at}
use Rattle.mr_bound.proofs.binding_update.set_at.Given as goal

abbrev pub invariant-loop-item : goal.invariant-loop-item
invariant-loop-item l = l.bound ≡ map (set_at l.def) (take l.item-index l.set)
