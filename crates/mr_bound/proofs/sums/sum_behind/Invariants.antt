use Rattle.std.proofs.Common.{◌≡◌, drop}
use Rattle.mr_types.specs.Refusals.{in_turn}
use Rattle.mr_bound.specs.BoundUpdates.{with_term}
use Rattle.mr_bound.proofs.sums.sum_behind.Given as goal

abbrev pub invariant-loop-term : goal.invariant-loop-term
invariant-loop-term l = in_turn (with_term l.fields) l.sum (drop l.term-index l.terms) ≡ in_turn (with_term l.fields) l.fn.first l.terms
