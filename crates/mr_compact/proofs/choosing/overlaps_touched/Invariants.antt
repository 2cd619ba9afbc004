use Rattle.std.proofs.Common.{◌≡◌, ◌+◌, drop}
use Rattle.mr_compact.specs.Levels.{at_level}
use Rattle.mr_compact.specs.Passes.{overlaps_touched}
use Rattle.mr_compact.proofs.choosing.overlaps_touched.Given as goal

abbrev pub invariant-looking : goal.invariant-looking
invariant-looking l = overlaps_touched (at_level l.level l.part) (l.level + 1) l.span l.spans ≡ overlaps_touched (at_level l.level l.part) (l.level + 1) l.span (drop l.run-index l.spans)
