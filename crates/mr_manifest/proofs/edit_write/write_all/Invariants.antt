use Rattle.std.proofs.Common.{◌≡◌, ◌++◌, drop}
use Rattle.mr_manifest.specs.Edits.{edits_bytes}
use Rattle.mr_manifest.proofs.edit_write.write_all.Given as goal

abbrev pub invariant-writing : goal.invariant-writing
invariant-writing l = l.fn.out.items ++ edits_bytes l.edits ≡ l.out.items ++ edits_bytes (drop l.edit-index l.edits)
