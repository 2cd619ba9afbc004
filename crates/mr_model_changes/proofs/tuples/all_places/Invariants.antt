use Rattle.std.proofs.Common.{◌≡◌, ◌++◌, map, drop}
use Rattle.std.specs.List.{enumerate_from}
use Rattle.mr_model_changes.proofs.tuples.all_places.Given as goal

abbrev pub invariant-loop-i : goal.invariant-loop-i
invariant-loop-i l = l.at ++ map (λ p. p.0) (enumerate_from l.i (drop l.i l.columns)) ≡ map (λ p. p.0) (enumerate_from 0 l.columns)
