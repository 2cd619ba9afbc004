use Rattle.std.proofs.Common.{◌≡◌, ℕ, List, take, None}
use Rattle.mr_commit_log.specs.Causes.{GoesOn}
use Rattle.mr_serve.specs.Serving.{IsServing}
use Rattle.mr_run.specs.Clocks.{clock_of, Goes}
use Rattle.mr_run.specs.Cutting.{statements_in, left_by}
use Rattle.mr_run.specs.Holding.{Holds}
use Rattle.mr_run.specs.Serving.{Serves}
use Rattle.mr_run.proofs.shell.Shell.feed_all.Given as goal

abbrev pub invariant-loop-byte : goal.invariant-loop-byte
invariant-loop-byte g l =
    let disk = g.H.Disk.disk in
    let clock = g.C.Clock.clock in
    record {
      serves : (since : List ℕ) → Holds l.fn.self.part since → Serves l.fn.self.server l.self.server (clock_of l.fn.self.given (clock l.fn.clock)) (clock_of l.fn.self.given (clock l.clock)) (disk l.fn.host) (disk l.host) None (statements_in since (take l.byte-index l.bytes));
      holds : (since : List ℕ) → Holds l.fn.self.part since → Holds l.self.part (left_by since (take l.byte-index l.bytes));
      given : l.self.given ≡ l.fn.self.given;
      limit : l.self.server.log.gate.limit ≡ l.fn.self.server.log.gate.limit;
      serving : IsServing l.self.server (disk l.host);
      clocks : Goes l.fn.self.given (clock l.fn.clock) (clock l.clock);
      goes_on : GoesOn (disk l.fn.host) (disk l.host);
    }
