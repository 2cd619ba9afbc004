use Rattle.std.proofs.Common.{◌≡◌, ◌+◌, ◌≤◌, min, drop}
use Rattle.mr_spec.specs.Weight.{values_size}
use Rattle.mr_model_rows.proofs.weight.values_size.Given as goal

abbrev pub invariant-loop-value : goal.invariant-loop-value
invariant-loop-value l = record {
  within : l.size ≤ 67108865;
  rest : min 67108865 (l.size + values_size (drop l.value-index l.values)) ≡ min 67108865 (values_size l.values);
}
