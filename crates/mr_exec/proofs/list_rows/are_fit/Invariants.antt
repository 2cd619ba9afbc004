use Rattle.std.proofs.Common.{◌≡◌, drop}
use Rattle.mr_exec.specs.Lists.{rows_fit}
use Rattle.mr_exec.proofs.list_rows.are_fit.Given as goal

abbrev pub invariant-loop-row : goal.invariant-loop-row
invariant-loop-row l = rows_fit l.def (drop l.row-index l.rows) ≡ rows_fit l.def l.rows
