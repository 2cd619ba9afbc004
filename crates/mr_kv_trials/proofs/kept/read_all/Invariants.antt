use Rattle.std.proofs.Common.{◌≡◌, ◌-◌}
use Rattle.mr_base.specs.Disk.{Tells, file_of}
use Rattle.mr_base.specs.Calls.{Same, Rises}
use Rattle.mr_gate.specs.Walking.{Walks}
use Rattle.mr_kv_trials.proofs.kept.read_all.Given as goal

abbrev pub invariant-reading : goal.invariant-reading
invariant-reading g l =
    let disk = g.D.Disk.disk in
    let bytes = (file_of (disk l.fn.disk) 16).bytes in
    record {
      file : l.reader.walk.file ≡ 16;
      rises : Rises 1 (disk l.fn.disk) (disk l.disk);
      same : Tells (disk l.fn.disk) → Same (disk l.fn.disk) (disk l.disk);
      walks : Tells (disk l.fn.disk) → Walks l.reader.walk bytes;
    }

abbrev pub decreases-reading : goal.decreases-reading
decreases-reading g l = l.reader.walk.length - l.reader.walk.place
