use Rattle.std.proofs.Common.{◌≡◌, drop}
use Rattle.mr_base.specs.declared.stop.Direction.TheVariants.{Forward}
use Rattle.mr_families.specs.Batches.{with_operations}
use Rattle.mr_store_names.proofs.adding.add_operations.Given as goal

abbrev pub invariant-adding : goal.invariant-adding
invariant-adding l = record {
  levels : l.family.levels ≡ l.fn.family.levels;
  cached : l.family.cached ≡ l.fn.family.cached;
  versions : with_operations Forward 0 l.sequence (drop l.i l.operations) l.family.memtable.versions ≡ with_operations Forward 0 l.sequence l.operations l.fn.family.memtable.versions;
}
