use Rattle.std.proofs.Common.{◌≡◌, ◌+◌, ◌*◌, ◌≤◌, drop}
use Rattle.mr_spec.specs.KeyChecks.{width_of}
use Rattle.mr_schema.proofs.keys.width_of.Given as goal

abbrev pub invariant-loop-place : goal.invariant-loop-place
invariant-loop-place l = record {
  summed : l.width + width_of l.columns (drop l.place-index l.places) ≡ width_of l.columns l.places;
  small : l.width ≤ l.place-index * 65535;
}
