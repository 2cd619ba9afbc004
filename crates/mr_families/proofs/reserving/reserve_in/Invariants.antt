use Rattle.std.proofs.Common.{ℕ, ◌<◌}
use Rattle.mr_families.specs.Known.{AreKept, one_at}
use Rattle.mr_families.specs.Changed.{SameButRooms}
use Rattle.mr_families.specs.Rooms.{HasRoom}
use Rattle.mr_families.proofs.reserving.reserve_in.Given as goal

abbrev pub invariant-reserving : goal.invariant-reserving
invariant-reserving l = record {
  kept : AreKept l.list.items;
  same : SameButRooms l.fn.list.items l.list.items;
  room : (j : ℕ) → j < l.i → HasRoom l.batch (one_at l.list.items j);
}
