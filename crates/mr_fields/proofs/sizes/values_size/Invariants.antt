use Rattle.std.proofs.Common.{◌≡◌, ◌+◌, ◌≤◌, ◌^◌, min, drop}
use Rattle.mr_spec.specs.Weight.{values_size}
use Rattle.mr_fields.proofs.sizes.values_size.Given as goal

abbrev pub invariant-loop-value : goal.invariant-loop-value
invariant-loop-value l = record {
  within : l.size ≤ (2 ^ 62);
  rest : min (2 ^ 62) (l.size + values_size (drop l.value-index l.values)) ≡ min (2 ^ 62) (values_size l.values);
}
