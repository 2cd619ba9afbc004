use Rattle.std.proofs.Common.{◌≡◌, ◌≤◌, ◌-◌}
use Rattle.mr_commit_log.specs.Causes.{GoesOn}
use Rattle.mr_serve.specs.Serving.{IsServing}
use Rattle.mr_run.specs.Clocks.{clock_of, Goes}
use Rattle.mr_run.proofs.Taking.{Taken}
use Rattle.mr_run.proofs.shell.Shell.serve_all.Given as goal

abbrev pub invariant-loop-taken : goal.invariant-loop-taken
invariant-loop-taken g l =
    let disk = g.H.Disk.disk in
    let clock = g.C.Clock.clock in
    let source = g.S.Source.source in
    record {
      so_far : Taken (source l.fn.source) (source l.source) l.self.part l.fn.self.server l.self.server (clock_of l.fn.self.given (clock l.fn.clock)) (clock_of l.fn.self.given (clock l.clock)) (disk l.fn.host) (disk l.host) l.taken;
      bound : l.taken ≤ 1073741825;
      given : l.self.given ≡ l.fn.self.given;
      limit : l.self.server.log.gate.limit ≡ l.fn.self.server.log.gate.limit;
      serving : IsServing l.self.server (disk l.host);
      clocks : Goes l.fn.self.given (clock l.fn.clock) (clock l.clock);
      goes_on : GoesOn (disk l.fn.host) (disk l.host);
      later : (source l.fn.source).faults ≤ (source l.source).faults;
    }

abbrev pub decreases-loop-taken : goal.decreases-loop-taken
decreases-loop-taken g l = 1073741825 - l.taken
