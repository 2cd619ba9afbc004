use Rattle.std.proofs.Common.{◌≡◌, map, drop}
use Rattle.std.specs.Prelude.{◌*ℤ◌}
use Rattle.mr_types.specs.Refusals.{in_turn}
use Rattle.mr_spec.specs.Setting.{combined}
use Rattle.mr_bound.specs.BoundUpdates.{factor_in}
use Rattle.mr_bound.proofs.sums.product_behind.Given as goal

abbrev pub invariant-loop-factor : goal.invariant-loop-factor
invariant-loop-factor l = in_turn (combined (λ m n. m *ℤ n)) l.product (map (factor_in l.fields) (drop l.factor-index l.factors)) ≡ in_turn (combined (λ m n. m *ℤ n)) l.fn.first (map (factor_in l.fields) l.factors)
