use Rattle.std.proofs.Common.{◌≡◌, map, take}
use Rattle.mr_bound.specs.BoundUpdates.{factor_at}
use Rattle.mr_bound.proofs.binding_update.factors_at.Given as goal

abbrev pub invariant-loop-factor : goal.invariant-loop-factor
invariant-loop-factor l = l.bound ≡ map (factor_at l.def) (take l.factor-index l.factors)
