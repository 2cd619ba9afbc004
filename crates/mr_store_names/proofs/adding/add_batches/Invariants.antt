use Rattle.std.proofs.Common.{◌≡◌, drop}
use Rattle.mr_base.specs.declared.stop.Direction.TheVariants.{Forward}
use Rattle.mr_stored.specs.Lists.{with_batches}
use Rattle.mr_store_names.proofs.adding.add_batches.Given as goal

abbrev pub invariant-adding : goal.invariant-adding
invariant-adding l = record {
  levels : l.family.levels ≡ l.fn.family.levels;
  cached : l.family.cached ≡ l.fn.family.cached;
  versions : with_batches Forward 0 (drop l.i l.batches) l.family.memtable.versions ≡ with_batches Forward 0 l.batches l.fn.family.memtable.versions;
}
