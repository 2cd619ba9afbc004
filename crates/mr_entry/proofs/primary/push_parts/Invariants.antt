use Rattle.std.proofs.Common.{◌≡◌, ◌++◌, take}
use Rattle.mr_entry.specs.Primary.{parts_in}
use Rattle.mr_entry.proofs.primary.push_parts.Given as goal

abbrev pub invariant-loop-place : goal.invariant-loop-place
invariant-loop-place l = l.out.items ≡ l.fn.out.items ++ parts_in l.columns l.places l.key (take l.place-index l.wanted)
