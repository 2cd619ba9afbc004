use Rattle.std.proofs.Common.{◌≡◌, take}
use Rattle.mr_spec.specs.Select.{places}
use Rattle.mr_bound.proofs.binding_select.places_of.Given as goal

abbrev pub invariant-loop-name : goal.invariant-loop-name
invariant-loop-name l = l.places.items ≡ places l.def (take l.name-index l.names)
