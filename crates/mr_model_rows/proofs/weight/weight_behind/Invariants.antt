use Rattle.std.proofs.Common.{◌≡◌, ◌+◌, min, take}
use Rattle.mr_spec.specs.Weight.{total_weight}
use Rattle.mr_model_rows.proofs.weight.weight_behind.Given as goal

abbrev pub invariant-loop-change : goal.invariant-loop-change
invariant-loop-change l = l.weight ≡ min 67108865 (l.fn.before + total_weight l.tables (take l.change-index l.changes))
