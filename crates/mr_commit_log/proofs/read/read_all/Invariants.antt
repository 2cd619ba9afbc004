use Rattle.std.proofs.Common.{◌≤◌, ◌-◌}
use Rattle.mr_base.specs.Disk.{Tells}
use Rattle.mr_base.specs.Calls.{Same}
use Rattle.mr_commit_log.specs.Causes.{GoesOn}
use Rattle.mr_commit_log.specs.Opening.{Replaying}
use Rattle.mr_commit_log.proofs.read.read_all.Given as goal

abbrev pub invariant-records : goal.invariant-records
invariant-records g l =
    let disk = g.H.Disk.disk in
    record {
      goes_on : GoesOn (disk l.fn.host) (disk l.host);
      same : Tells (disk l.fn.host) → Same (disk l.fn.host) (disk l.host);
      within : l.at ≤ l.log.gate.end;
      replaying : Replaying (disk l.fn.host) l.at l.commits;
    }

abbrev pub decreases-records : goal.decreases-records
decreases-records g l = l.log.gate.end - l.at
