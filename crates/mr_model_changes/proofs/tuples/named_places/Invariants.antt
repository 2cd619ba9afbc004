use Rattle.std.proofs.Common.{◌≡◌, drop, []}
use Rattle.mr_types.specs.Refusals.{in_turn}
use Rattle.mr_spec.specs.NewRows.{with_place}
use Rattle.mr_model_changes.proofs.tuples.named_places.Given as goal

abbrev pub invariant-loop-name : goal.invariant-loop-name
invariant-loop-name l = in_turn (with_place l.def) l.at (drop l.name-index l.names) ≡ in_turn (with_place l.def) [] l.names
