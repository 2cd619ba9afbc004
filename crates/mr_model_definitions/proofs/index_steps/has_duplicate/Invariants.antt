use Rattle.std.proofs.Common.{◌≡◌, drop}
use Rattle.mr_spec.specs.SchemaSteps.{has_duplicate}
use Rattle.mr_model_definitions.proofs.index_steps.has_duplicate.Given as goal

abbrev pub invariant-loop-i : goal.invariant-loop-i
invariant-loop-i l = has_duplicate l.def l.key (drop l.i l.rows) ≡ has_duplicate l.def l.key l.rows
