use Rattle.std.proofs.Common.{◌≡◌, ◌-◌, length}
use Rattle.mr_manifest.specs.Edits.{edits_in}
use Rattle.mr_manifest.specs.Given.{with_front}
use Rattle.mr_manifest.proofs.edit_read.edits_left.Given as goal

abbrev pub invariant-reading : goal.invariant-reading
invariant-reading l = edits_in (length l.bytes) l.bytes ≡ with_front l.edits (edits_in (length l.bytes - l.i) l.rest)
