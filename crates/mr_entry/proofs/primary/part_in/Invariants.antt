use Rattle.std.proofs.Common.{◌≡◌, drop}
use Rattle.mr_entry.specs.Primary.{part_in}
use Rattle.mr_entry.proofs.primary.part_in.Given as goal

abbrev pub invariant-loop-part : goal.invariant-loop-part
invariant-loop-part l = part_in l.columns l.places l.key l.place ≡ part_in l.columns (drop l.part-index l.places) l.left l.place
