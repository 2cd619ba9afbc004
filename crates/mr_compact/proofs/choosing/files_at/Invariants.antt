use Rattle.std.proofs.Common.{◌≡◌, ◌++◌, drop}
use Rattle.mr_compact.specs.Passes.{files_at}
use Rattle.mr_compact.proofs.choosing.files_at.Given as goal

abbrev pub invariant-listing : goal.invariant-listing
invariant-listing l = files_at l.level l.runs ≡ l.files ++ files_at l.level (drop l.run-index l.runs)
