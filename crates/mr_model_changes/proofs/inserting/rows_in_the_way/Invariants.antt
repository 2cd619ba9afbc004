use Rattle.std.proofs.Common.{◌≡◌, take, filter}
use Rattle.mr_spec.specs.Rows.{clashes, visible}
use Rattle.mr_model_changes.proofs.inserting.rows_in_the_way.Given as goal

abbrev pub invariant-loop-row : goal.invariant-loop-row
invariant-loop-row l = l.gone ≡ filter (clashes l.scene.def.now l.new) (visible l.scene.def.now l.scene.moment (take l.row-index l.rows))
