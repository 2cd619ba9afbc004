use Rattle.std.proofs.Common.{◌≡◌, drop}
use Rattle.mr_base.specs.Disk.{Tells, seen}
use Rattle.mr_base.specs.Calls.{Rises, Same}
use Rattle.mr_base.specs.declared.stop.Direction.TheVariants.{Forward}
use Rattle.mr_family.specs.Family.{direction}
use Rattle.mr_stored.specs.Lists.{runs_of, with_runs}
use Rattle.mr_store_names.proofs.opening.open_runs.Given as goal

abbrev pub invariant-opening : goal.invariant-opening
invariant-opening g l = record {
  forward : direction l.family ≡ Forward;
  memtable : l.family.memtable ≡ l.fn.family.memtable;
  cached : l.family.cached ≡ l.fn.family.cached;
  rises : Rises 0 (g.D.Disk.disk l.fn.disk) (g.D.Disk.disk l.disk);
  same : Tells (g.D.Disk.disk l.fn.disk) → Same (g.D.Disk.disk l.fn.disk) (g.D.Disk.disk l.disk);
  opened : Tells (g.D.Disk.disk l.fn.disk) → with_runs Forward (seen (g.D.Disk.disk l.fn.disk)) (runs_of 0 (drop l.i l.runs)) l.family.levels ≡ with_runs Forward (seen (g.D.Disk.disk l.fn.disk)) (runs_of 0 l.runs) l.fn.family.levels;
}
