use Rattle.std.proofs.Common.{◌≡◌, drop}
use Rattle.mr_spec.specs.Setting.{same_fields}
use Rattle.mr_bound.proofs.updating.same_fields.Given as goal

abbrev pub invariant-loop-i : goal.invariant-loop-i
invariant-loop-i l = same_fields (drop l.i l.old) (drop l.i l.new) ≡ same_fields l.old l.new
