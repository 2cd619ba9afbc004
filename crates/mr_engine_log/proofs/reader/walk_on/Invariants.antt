use Rattle.std.proofs.Common.{◌≡◌, ◌≤◌, ◌-◌}
use Rattle.mr_base.specs.Disk.{Tells, file_of}
use Rattle.mr_base.specs.Calls.{Same, Rises}
use Rattle.mr_gate.specs.Log.{end_from, is_damaged_from}
use Rattle.mr_gate.specs.Walking.{Walks, IsPaid, paid}
use Rattle.mr_engine_log.proofs.reader.walk_on.Given as goal

abbrev pub invariant-rest : goal.invariant-rest
invariant-rest g l =
    let disk = g.D.Disk.disk in
    let bytes = (file_of (disk l.fn.disk) l.fn.walk.file).bytes in
    record {
      rises : Rises 0 (disk l.fn.disk) (disk l.disk);
      file : l.walk.file ≡ l.fn.walk.file;
      length : l.walk.length ≡ l.fn.walk.length;
      near : l.fn.walk.window.start ≤ l.fn.walk.place → l.walk.window.start ≤ l.walk.place;
      paid : IsPaid (paid l.fn.walk) (paid l.walk) (disk l.fn.disk) (disk l.disk);
      same : Tells (disk l.fn.disk) → Same (disk l.fn.disk) (disk l.disk);
      walks : Tells (disk l.fn.disk) → Walks l.walk bytes;
      end : Tells (disk l.fn.disk) → end_from l.fn.walk.place bytes ≡ end_from l.walk.place bytes;
      damage : Tells (disk l.fn.disk) → is_damaged_from l.fn.walk.place bytes ≡ is_damaged_from l.walk.place bytes;
    }

abbrev pub decreases-rest : goal.decreases-rest
decreases-rest g l = l.walk.length - l.walk.place
