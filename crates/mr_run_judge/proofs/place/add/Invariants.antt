use Rattle.std.proofs.Common.{◌≡◌, drop}
use Rattle.mr_stored.specs.Offences.{add}
use Rattle.mr_run_judge.proofs.place.add.Given as goal

abbrev pub invariant-adding : goal.invariant-adding
invariant-adding l = add l.file l.fn.edits ≡ add l.file (drop l.i l.edits)
