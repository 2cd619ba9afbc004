use Rattle.std.proofs.Common.{◌≡◌, drop}
use Rattle.mr_spec.specs.Rows.{place_from}
use Rattle.mr_schema.proofs.names.place_in.Given as goal

abbrev pub invariant-loop-i : goal.invariant-loop-i
invariant-loop-i l = place_from l.i l.name (drop l.i l.columns) ≡ place_from 0 l.name l.columns
