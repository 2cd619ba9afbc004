use Rattle.std.proofs.Common.{◌≡◌, ◌≤◌, ◌+◌, ◌*◌, ◌-◌}
use Rattle.mr_base.specs.Disk.{Tells, seen}
use Rattle.mr_base.specs.Calls.{Same, Rises}
use Rattle.mr_gate.specs.Walking.{Walks, paid}
use Rattle.mr_engine_log.specs.Reading.{IsReading}
use Rattle.mr_store_reading.proofs.log.read_log.Given as goal

abbrev pub invariant-reading : goal.invariant-reading
invariant-reading g l =
    let disk = g.D.Disk.disk in
    let bytes = seen (disk l.fn.disk) l.fn.file in
    record {
      file : l.reader.walk.file ≡ l.fn.file;
      base : l.reader.base ≡ l.fn.base;
      rises : Rises 0 (disk l.fn.disk) (disk l.disk);
      same : Tells (disk l.fn.disk) → Same (disk l.fn.disk) (disk l.disk);
      near : l.reader.walk.window.start ≤ l.reader.walk.place;
      asked : (disk l.disk).asked ≤ (disk l.fn.disk).asked + (65532 + paid l.reader.walk);
      reads : 65528 * (disk l.disk).reads ≤ 65528 * ((disk l.fn.disk).reads + 1) + paid l.reader.walk;
      walks : Tells (disk l.fn.disk) → Walks l.reader.walk bytes;
      reading : Tells (disk l.fn.disk) → IsReading l.reader l.batches.items bytes;
    }

abbrev pub decreases-reading : goal.decreases-reading
decreases-reading g l = l.reader.walk.length - l.reader.walk.place
