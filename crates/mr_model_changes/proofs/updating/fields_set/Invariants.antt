use Rattle.std.proofs.Common.{◌≡◌, drop}
use Rattle.mr_types.specs.Refusals.{in_turn}
use Rattle.mr_spec.specs.Setting.{with_item}
use Rattle.mr_model_changes.proofs.updating.fields_set.Given as goal

abbrev pub invariant-loop-item : goal.invariant-loop-item
invariant-loop-item l = in_turn (with_item l.def) l.fields (drop l.item-index l.set) ≡ in_turn (with_item l.def) l.old l.set
