use Rattle.std.proofs.Common.{◌≡◌, drop}
use Rattle.mr_compact.specs.Levels.{oldest, oldest_with}
use Rattle.mr_compact.proofs.choosing.oldest.Given as goal

abbrev pub invariant-looking : goal.invariant-looking
invariant-looking l = oldest l.level l.spans ≡ oldest_with l.level l.best (drop l.i l.spans)
