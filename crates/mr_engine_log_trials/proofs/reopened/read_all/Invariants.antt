use Rattle.std.proofs.Common.{◌≡◌, ◌-◌, List}
use Rattle.mr_base.specs.Disk.{Tells, file_of}
use Rattle.mr_base.specs.Calls.{Same, Rises}
use Rattle.mr_gate.specs.Walking.{Walks}
use Rattle.mr_engine_log.specs.Reading.{IsReading}
use Rattle.mr_engine_log.specs.declared.batched.Batched.{Batched}
use Rattle.mr_engine_log_trials.proofs.reopened.read_all.Given as goal

abbrev pub invariant-reading : goal.invariant-reading
invariant-reading g l =
    let disk = g.D.Disk.disk in
    let bytes = (file_of (disk l.fn.disk) 16).bytes in
    record {
      file : l.reader.walk.file ≡ 16;
      base : l.reader.base ≡ 0;
      rises : Rises 1 (disk l.fn.disk) (disk l.disk);
      same : Tells (disk l.fn.disk) → Same (disk l.fn.disk) (disk l.disk);
      walks : Tells (disk l.fn.disk) → Walks l.reader.walk bytes;
      reading : Tells (disk l.fn.disk) → (batches : List Batched) × IsReading l.reader batches bytes;
    }

abbrev pub decreases-reading : goal.decreases-reading
decreases-reading g l = l.reader.walk.length - l.reader.walk.place
