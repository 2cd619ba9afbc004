use Rattle.std.proofs.Common.{◌≡◌, drop}
use Rattle.mr_compact.specs.Passes.{begins_before}
use Rattle.mr_compact.proofs.choosing.begins_before.Given as goal

abbrev pub invariant-looking : goal.invariant-looking
invariant-looking l = begins_before l.level l.key l.runs ≡ begins_before l.level l.key (drop l.run-index l.runs)
