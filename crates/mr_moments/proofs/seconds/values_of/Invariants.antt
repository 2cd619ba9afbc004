use Rattle.std.proofs.Common.{◌≡◌, drop}
use Rattle.mr_moments.specs.Form.{with_values, parts_from, values_of}
use Rattle.mr_moments.proofs.seconds.values_of.Given as goal

abbrev pub invariant-loop-byte : goal.invariant-loop-byte
invariant-loop-byte l = with_values l.values (parts_from l.part.items (drop l.byte-index l.text)) ≡ values_of l.text
