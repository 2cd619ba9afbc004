use Rattle.std.proofs.Common.{◌≡◌, ◌++◌, drop}
use Rattle.mr_manifest.specs.Live.{without}
use Rattle.mr_manifest.proofs.live.runs_without.Given as goal

abbrev pub invariant-keeping : goal.invariant-keeping
invariant-keeping l = without l.file l.runs ≡ l.kept ++ without l.file (drop l.run-index l.runs)
