use Rattle.std.proofs.Common.{◌≡◌, ◌≤◌, ◌-◌}
use Rattle.mr_base.specs.Disk.{Tells, file_of}
use Rattle.mr_base.specs.Calls.{Same, Rises}
use Rattle.mr_gate.specs.Walking.{Walks}
use Rattle.mr_manifest.specs.Manifest.{manifest_of}
use Rattle.mr_stored.specs.Offences.{added_in}
use Rattle.mr_run_judge.specs.Adding.{added_behind, read_from}
use Rattle.mr_run_judge.proofs.place.added_in.Given as goal

abbrev pub invariant-walking : goal.invariant-walking
invariant-walking g l =
    let disk = g.D.Disk.disk in
    let bytes = (file_of (disk l.fn.disk) 0).bytes in
    record {
      rises : Rises 0 (disk l.fn.disk) (disk l.disk);
      file : l.walk.file ≡ 0;
      near : l.walk.window.start ≤ l.walk.place;
      same : Tells (disk l.fn.disk) → Same (disk l.fn.disk) (disk l.disk);
      walks : Tells (disk l.fn.disk) → Walks l.walk bytes;
      place : Tells (disk l.fn.disk) → added_in l.file (manifest_of bytes) ≡ added_behind l.file l.place (read_from l.walk.place bytes);
    }

abbrev pub decreases-walking : goal.decreases-walking
decreases-walking g l = l.walk.length - l.walk.place
