use Rattle.std.proofs.Common.{◌≡◌, drop}
use Rattle.mr_manifest.specs.Manifest.{named}
use Rattle.mr_manifest.proofs.sum.named_log.Given as goal

abbrev pub invariant-naming : goal.invariant-naming
invariant-naming l = named l.edits l.fn.log ≡ named (drop l.edit-index l.edits) l.last
