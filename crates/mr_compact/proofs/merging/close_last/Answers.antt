use Rattle.std.proofs.Common.{[]}
use Rattle.mr_compact.proofs.Outside.{on_ok}
use Rattle.mr_compact.proofs.Joining.{all_done, one_left}
use Rattle.mr_compact.proofs.merging.close_last.Goals as goal

pub returns-then-not-written-clause-holds : goal.returns-then-not-written-clause-holds
returns-then-not-written-clause-holds g c = λ all told held. all_done (g.W.RunOut.run (g.W.RunOut.out c.args.out.now).direction) c.args.written.now.last (g.D.Disk.disk c.args.disk.now) (g.W.RunOut.out c.args.out.now) c.args.written.now.runs all c.if-not-written.true held

pub returns-clause-holds : goal.returns-clause-holds
returns-clause-holds g c = λ all told held.
    on_ok c.close_run.result (all_done (g.W.RunOut.run (g.W.RunOut.out c.args.out.now).direction) c.close_run.new.written.last (g.D.Disk.disk c.close_run.new.disk) (g.W.RunOut.out c.close_run.new.out) c.close_run.new.written.runs all c.close_run.ensures.closed)
    (c.close_run.ensures.holds [] all told (one_left (g.W.RunOut.run (g.W.RunOut.out c.args.out.now).direction) c.args.written.now.last (g.D.Disk.disk c.args.disk.now) (g.W.RunOut.out c.args.out.now) c.args.written.now.runs all c.if-not-written.false held))
