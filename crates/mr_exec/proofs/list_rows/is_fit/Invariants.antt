use Rattle.std.proofs.Common.{◌≡◌, drop}
use Rattle.mr_exec.specs.Lists.{values_fit}
use Rattle.mr_exec.proofs.list_rows.is_fit.Given as goal

abbrev pub invariant-loop-i : goal.invariant-loop-i
invariant-loop-i l = values_fit l.def l.i (drop l.i l.values) ≡ values_fit l.def 0 l.values
