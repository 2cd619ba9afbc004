use Rattle.std.proofs.Common.{◌≡◌, ◌+◌, ◌++◌, drop}
use Rattle.mr_compact.specs.Levels.{at_level, touched, is_bottom}
use Rattle.mr_compact.proofs.choosing.is_bottom.Given as goal

abbrev pub invariant-looking : goal.invariant-looking
invariant-looking l = is_bottom (l.level + 1) (at_level l.level l.part ++ touched (at_level l.level l.part) (l.level + 1) l.spans) l.spans ≡ is_bottom (l.level + 1) (at_level l.level l.part ++ touched (at_level l.level l.part) (l.level + 1) l.spans) (drop l.span-index l.spans)
