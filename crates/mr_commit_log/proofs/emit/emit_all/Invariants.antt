use Rattle.std.proofs.Common.{◌≡◌, ◌≤◌, ◌-◌, ◌++◌, length, take}
use Rattle.mr_base.specs.Disk.{Tells, present}
use Rattle.mr_base.specs.Calls.{During, IsShown, EmitCounts}
use Rattle.mr_commit_log.proofs.emit.emit_all.Given as goal

abbrev pub invariant-loop-at : goal.invariant-loop-at
invariant-loop-at g l =
    let disk = g.H.Disk.disk in
    record {
      within : l.at ≤ length l.text;
      counts : EmitCounts (disk l.fn.host) (disk l.host);
      during : Tells (disk l.fn.host) → During (disk l.fn.host) (disk l.host) (IsShown l.text (present (disk l.fn.host)));
      shown : Tells (disk l.fn.host) → (present (disk l.host)).output ≡ (present (disk l.fn.host)).output ++ take l.at l.text;
    }

abbrev pub decreases-loop-at : goal.decreases-loop-at
decreases-loop-at g l = length l.text - l.at
