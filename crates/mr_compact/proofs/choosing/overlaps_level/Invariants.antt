use Rattle.std.proofs.Common.{◌≡◌, drop}
use Rattle.mr_compact.specs.Passes.{overlaps_level}
use Rattle.mr_compact.proofs.choosing.overlaps_level.Given as goal

abbrev pub invariant-looking : goal.invariant-looking
invariant-looking l = overlaps_level l.level l.span l.runs ≡ overlaps_level l.level l.span (drop l.run-index l.runs)
