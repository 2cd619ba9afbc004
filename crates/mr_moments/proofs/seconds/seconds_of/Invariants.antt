use Rattle.std.proofs.Common.{◌≡◌, drop}
use Rattle.mr_moments.specs.Form.{with_digits}
use Rattle.mr_moments.proofs.seconds.seconds_of.Given as goal

abbrev pub invariant-loop-byte : goal.invariant-loop-byte
invariant-loop-byte l = with_digits l.number (drop l.byte-index l.text) ≡ with_digits 0 l.text
