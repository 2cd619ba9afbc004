use Rattle.std.proofs.Common.{◌≡◌, ◌++◌, List, take, None}
use Rattle.mr_spec.specs.Lawful.{IsLawful}
use Rattle.mr_types.specs.declared.row.Commit.{Commit}
use Rattle.mr_commit_log.specs.Appending.{IsReady, Appends}
use Rattle.mr_commit_log.specs.Causes.{GoesOn}
use Rattle.mr_commit_log.proofs.append.append_all.Given as goal

abbrev pub invariant-appending : goal.invariant-appending
invariant-appending g l =
    let disk = g.H.Disk.disk in
    record {
      ready : IsReady l.log.gate (disk l.host);
      limit : l.log.gate.limit ≡ l.fn.log.gate.limit;
      appends : (before : List Commit) → IsLawful (before ++ l.commits) → Appends l.fn.log.gate.limit (disk l.fn.host) (disk l.host) (take l.commit-index l.commits) None before;
      goes_on : GoesOn (disk l.fn.host) (disk l.host);
    }
