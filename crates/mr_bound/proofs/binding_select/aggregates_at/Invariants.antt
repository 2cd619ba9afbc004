use Rattle.std.proofs.Common.{◌≡◌, map, take}
use Rattle.mr_bound.specs.BoundSelects.{aggregate_at}
use Rattle.mr_bound.proofs.binding_select.aggregates_at.Given as goal

abbrev pub invariant-loop-aggregate : goal.invariant-loop-aggregate
invariant-loop-aggregate l = l.bound ≡ map (aggregate_at l.def) (take l.aggregate-index l.aggregates)
