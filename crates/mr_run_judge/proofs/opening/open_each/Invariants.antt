use Rattle.std.proofs.Common.{◌≡◌, ◌*◌, map, take, drop}
use Rattle.std.specs.List.{AllByRecursion}
use Rattle.mr_base.specs.Disk.{Tells, seen}
use Rattle.mr_base.specs.Calls.{Same, Counts}
use Rattle.mr_stored.specs.Offences.{structures}
use Rattle.mr_run_judge.specs.declared.ends.Ends.{Ends}
use Rattle.mr_run_judge.specs.Judged.{lengths, HasEnds}
use Rattle.mr_run_judge.proofs.opening.open_each.Given as goal

abbrev pub invariant-opening : goal.invariant-opening
invariant-opening g l =
    let disk = g.D.Disk.disk in
    record {
      counts : Counts (2 * l.i) (lengths (take l.i l.runs)) 0 (disk l.fn.disk) (disk l.disk);
      same : Tells (disk l.fn.disk) → Same (disk l.fn.disk) (disk l.disk);
      runs : map (λ (e : Ends). e.run) l.opened.items ≡ take l.i l.runs;
      sound : Tells (disk l.fn.disk) → structures (seen (disk l.fn.disk)) l.fn.runs ≡ structures (seen (disk l.fn.disk)) (drop l.i l.runs);
      ends : Tells (disk l.fn.disk) → AllByRecursion (HasEnds (seen (disk l.fn.disk))) l.opened.items;
    }
