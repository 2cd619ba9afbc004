use Rattle.std.proofs.Common.{◌≡◌, map, take}
use Rattle.mr_bound.specs.BoundUpdates.{term_at}
use Rattle.mr_bound.proofs.binding_update.terms_at.Given as goal

abbrev pub invariant-loop-term : goal.invariant-loop-term
invariant-loop-term l = l.bound ≡ map (term_at l.def) (take l.term-index l.terms)
