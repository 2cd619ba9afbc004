use Rattle.std.proofs.Common.{◌≡◌, ◌++◌, drop}
use Rattle.std.specs.List.{flat_map}
use Rattle.mr_spec.specs.ReplyText.{escaped}
use Rattle.mr_print.proofs.replies.write_bytes.Given as goal

abbrev pub invariant-loop-byte : goal.invariant-loop-byte
invariant-loop-byte l = l.text.items ++ flat_map escaped (drop l.byte-index l.bytes) ≡ l.initial.text.items ++ flat_map escaped l.bytes
