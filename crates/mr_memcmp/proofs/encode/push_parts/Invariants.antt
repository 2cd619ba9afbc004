use Rattle.std.proofs.Common.{◌≡◌, ◌++◌, take}
use Rattle.mr_memcmp.specs.Keys.{parts_bytes}
use Rattle.mr_memcmp.proofs.encode.push_parts.Given as goal

abbrev pub invariant-loop-at : goal.invariant-loop-at
invariant-loop-at l = l.out.items ≡ l.fn.out.items ++ parts_bytes l.columns l.values (take l.at-index l.places)
