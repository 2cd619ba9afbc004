use Rattle.std.proofs.Common.{◌≡◌, ◌++◌, map, drop}
use Rattle.std.specs.List.{enumerate_from}
use Rattle.mr_spec.specs.Select.{all_places}
use Rattle.mr_bound.proofs.binding_select.all_places.Given as goal

abbrev pub invariant-loop-i : goal.invariant-loop-i
invariant-loop-i l = l.places.items ++ map (λ p. p.0) (enumerate_from l.i (drop l.i l._column-items)) ≡ all_places l.def
