use Rattle.std.proofs.Common.{take}
use Rattle.mr_base.specs.Disk.{Tells, seen}
use Rattle.mr_base.specs.Calls.{Same, Rises}
use Rattle.mr_store_filling.specs.Filled.{HaveOpened}
use Rattle.mr_store_filling.proofs.opening.open_runs.Given as goal

abbrev pub invariant-opening : goal.invariant-opening
invariant-opening g l = record {
  opened : Tells (g.D.Disk.disk l.fn.disk) → HaveOpened (seen (g.D.Disk.disk l.fn.disk)) (take l.i l.runs) l.fn.families l.families;
  rises : Rises 0 (g.D.Disk.disk l.fn.disk) (g.D.Disk.disk l.disk);
  same : Tells (g.D.Disk.disk l.fn.disk) → Same (g.D.Disk.disk l.fn.disk) (g.D.Disk.disk l.disk);
}
