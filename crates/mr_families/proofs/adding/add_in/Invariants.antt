use Rattle.std.proofs.Common.{take, drop}
use Rattle.mr_families.specs.Known.{AreKept}
use Rattle.mr_families.specs.Batches.{AreAwaited, Added}
use Rattle.mr_families.proofs.adding.add_in.Given as goal

abbrev pub invariant-adding : goal.invariant-adding
invariant-adding l = record {
  kept : AreKept l.list.items;
  added : Added l.sequence (take l.i l.batch) l.fn.list.items l.list.items;
  awaited : AreAwaited l.list.items (drop l.i l.batch);
}
