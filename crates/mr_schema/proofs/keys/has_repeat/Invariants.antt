use Rattle.std.proofs.Common.{◌≡◌, drop}
use Rattle.mr_spec.specs.KeyChecks.{has_repeat}
use Rattle.mr_schema.proofs.keys.has_repeat.Given as goal

abbrev pub invariant-loop-i : goal.invariant-loop-i
invariant-loop-i l = has_repeat (drop l.i l.places) ≡ has_repeat l.places
