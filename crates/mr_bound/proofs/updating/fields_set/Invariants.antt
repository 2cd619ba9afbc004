use Rattle.std.proofs.Common.{◌≡◌, drop}
use Rattle.mr_types.specs.Refusals.{in_turn}
use Rattle.mr_bound.specs.BoundUpdates.{with_set}
use Rattle.mr_bound.proofs.updating.fields_set.Given as goal

abbrev pub invariant-loop-item : goal.invariant-loop-item
invariant-loop-item l = in_turn (with_set l.def) l.fields (drop l.item-index l.set) ≡ in_turn (with_set l.def) l.old l.set
