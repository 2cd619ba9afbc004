use Rattle.std.proofs.Common.{◌≡◌, drop}
use Rattle.std.specs.List.{list_any, enumerate_from}
use Rattle.mr_spec.specs.NewRows.{lacks}
use Rattle.mr_model_changes.proofs.tuples.lacks_some.Given as goal

abbrev pub invariant-loop-i : goal.invariant-loop-i
invariant-loop-i l = list_any (lacks l.at l.tuples) (enumerate_from l.i (drop l.i l.columns)) ≡ list_any (lacks l.at l.tuples) (enumerate_from 0 l.columns)
