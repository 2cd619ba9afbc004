use Rattle.std.proofs.Common.{◌-◌, ◌≤◌, ◌<◌, ◌+◌, ◌*◌}
use Rattle.mr_base.specs.Disk.{Tells, file_of}
use Rattle.mr_base.specs.Calls.{Same, Rises, Reads}
use Rattle.mr_gate.specs.Walked.{Walked}
use Rattle.mr_gate.proofs.opening.find_end.Given as goal

abbrev pub invariant-loop-place : goal.invariant-loop-place
invariant-loop-place g l =
    let disk = g.D.Disk.disk in
    record {
      counted : l.from + 5 * l.records ≤ l.place;
      some : 0 < l.place + l.length;
      rises : Rises 0 (disk l.fn.disk) (disk l.disk);
      reads : Reads l.records (5 * l.records) (disk l.fn.disk) (disk l.disk);
      same : Tells (disk l.fn.disk) → Same (disk l.fn.disk) (disk l.disk);
      walked : Tells (disk l.fn.disk) → Walked l.from (file_of (disk l.fn.disk) l.file).bytes l.place l.records;
    }

abbrev pub decreases-loop-place : goal.decreases-loop-place
decreases-loop-place g l = l.length - l.place
