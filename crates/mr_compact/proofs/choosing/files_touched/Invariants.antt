use Rattle.std.proofs.Common.{◌≡◌, ◌+◌, ◌++◌, drop}
use Rattle.mr_compact.specs.Levels.{at_level}
use Rattle.mr_compact.specs.Passes.{files_touched}
use Rattle.mr_compact.proofs.choosing.files_touched.Given as goal

abbrev pub invariant-listing : goal.invariant-listing
invariant-listing l = files_touched (at_level l.level l.part) (l.level + 1) l.spans ≡ l.files ++ files_touched (at_level l.level l.part) (l.level + 1) (drop l.span-index l.spans)
