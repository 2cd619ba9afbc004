use Rattle.std.proofs.Common.{◌≡◌, drop, None}
use Rattle.mr_memcmp.specs.Above.{above_of}
use Rattle.mr_memcmp.proofs.above.above_prefix.Given as goal

abbrev pub invariant-loop-at : goal.invariant-loop-at
invariant-loop-at l = above_of (drop l.at l.prefix) ≡ None
