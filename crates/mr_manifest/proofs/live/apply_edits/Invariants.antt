use Rattle.std.proofs.Common.{◌≡◌, drop}
use Rattle.mr_manifest.specs.Live.{live_after}
use Rattle.mr_manifest.proofs.live.apply_edits.Given as goal

abbrev pub invariant-applying : goal.invariant-applying
invariant-applying l = live_after l.edits l.fn.live ≡ live_after (drop l.edit-index l.edits) l.live
