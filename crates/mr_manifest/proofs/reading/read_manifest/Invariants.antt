use Rattle.std.proofs.Common.{◌≡◌, ◌≤◌, ◌+◌, ◌*◌, ◌-◌}
use Rattle.mr_base.specs.Disk.{Tells, file_of}
use Rattle.mr_base.specs.Calls.{Same, Rises}
use Rattle.mr_gate.specs.Log.{records_from, end_from, is_damaged_from}
use Rattle.mr_gate.specs.Walking.{Walks, paid}
use Rattle.mr_manifest.specs.Fields.{◌>>=◌}
use Rattle.mr_manifest.specs.Manifest.{no_records, sum_from, state}
use Rattle.mr_manifest.proofs.reading.read_manifest.Given as goal

abbrev pub invariant-walking : goal.invariant-walking
invariant-walking g l =
    let disk = g.D.Disk.disk in
    let bytes = (file_of (disk l.fn.disk) 0).bytes in
    record {
      rises : Rises 0 (disk l.fn.disk) (disk l.disk);
      file : l.walk.file ≡ 0;
      near : l.walk.window.start ≤ l.walk.place;
      asked : (disk l.disk).asked ≤ (disk l.fn.disk).asked + (65532 + paid l.walk);
      reads : 65528 * (disk l.disk).reads ≤ 65528 * ((disk l.fn.disk).reads + 1) + paid l.walk;
      same : Tells (disk l.fn.disk) → Same (disk l.fn.disk) (disk l.disk);
      walks : Tells (disk l.fn.disk) → Walks l.walk bytes;
      end : Tells (disk l.fn.disk) → end_from 0 bytes ≡ end_from l.walk.place bytes;
      damage : Tells (disk l.fn.disk) → is_damaged_from 0 bytes ≡ is_damaged_from l.walk.place bytes;
      sum : Tells (disk l.fn.disk) → sum_from no_records 0 (records_from 0 bytes) ≡ (state l.offence l.sum >>= λ s. sum_from s l.walk.place (records_from l.walk.place bytes));
    }

abbrev pub decreases-walking : goal.decreases-walking
decreases-walking g l = l.walk.length - l.walk.place
