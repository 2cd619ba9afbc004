use Rattle.std.proofs.Common.{take}
use Rattle.mr_families.specs.Rooms.{AreNeeds}
use Rattle.mr_families.proofs.reserving.needs_of.Given as goal

abbrev pub invariant-counting : goal.invariant-counting
invariant-counting l = AreNeeds l.list (take l.i l.batch) l.needs.items
