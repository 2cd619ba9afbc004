use Rattle.std.proofs.Common.{◌≡◌, take}
use Rattle.mr_spec.specs.Rows.{visible}
use Rattle.mr_model_rows.proofs.rows.visible.Given as goal

abbrev pub invariant-loop-row : goal.invariant-loop-row
invariant-loop-row l = l.kept ≡ visible l.def l.moment (take l.row-index l.rows)
