use Rattle.std.proofs.Common.{◌≡◌, drop}
use Rattle.mr_memcmp.specs.Parts.{first_no_space}
use Rattle.mr_memcmp.proofs.parts.first_no_space.Given as goal

abbrev pub invariant-loop-byte : goal.invariant-loop-byte
invariant-loop-byte l = first_no_space (drop l.byte-index l.text) ≡ first_no_space l.text
