use Rattle.std.proofs.Common.{◌≡◌, drop}
use Rattle.std.specs.List.{list_any}
use Rattle.mr_spec.specs.Rows.{clashes, visible}
use Rattle.mr_model_changes.proofs.steps.is_some_key_taken.Given as goal

abbrev pub invariant-loop-row : goal.invariant-loop-row
invariant-loop-row l = list_any (clashes l.scene.def.now l.new) (visible l.scene.def.now l.scene.moment (drop l.row-index l.rows)) ≡ list_any (clashes l.scene.def.now l.new) (visible l.scene.def.now l.scene.moment l.rows)
