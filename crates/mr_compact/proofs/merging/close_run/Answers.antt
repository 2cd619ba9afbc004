use Rattle.std.proofs.Common.{sym, ◌∙◌}
use Rattle.mr_compact.proofs.Joining.{ready_closed, run_closed}
use Rattle.mr_compact.proofs.merging.close_run.Goals as goal

pub returns-clause-ready : goal.returns-clause-ready
returns-clause-ready g c =
    ready_closed (g.W.RunOut.run (g.W.RunOut.out c.args.out.now).direction) c.args.written.now.first_file (g.W.RunOut.stands c.finish.new.self) (g.D.Disk.disk c.finish.new.disk) (g.W.RunOut.out c.finish.new.self) c.args.written.now.runs c.push.new.self c.in_ok-info.info
    c.requires.ready.numbered (sym c.in_ok-info.ensures.named ∙ c.requires.ready.file c.requires.begun) c.in_ok-push.ensures.ok

pub returns-clause-holds : goal.returns-clause-holds
returns-clause-holds g c = λ vs all told held.
    run_closed (g.W.RunOut.run (g.W.RunOut.out c.args.out.now).direction) c.args.written.now.first_file c.args.written.now.last.is (g.D.Disk.disk c.args.disk.now) (g.D.Disk.disk c.finish.new.disk) (g.W.RunOut.out c.args.out.now) (g.W.RunOut.out c.finish.new.self) c.args.written.now.runs c.push.new.self _ c.in_ok-info.info vs all
    c.requires.begun c.requires.ready.numbered (c.requires.ready.file c.requires.begun) c.finish.ensures.direction (c.finish.ensures.others told) c.in_ok-push.ensures.ok
    (λ order. record { run_of = c.in_ok-info.ensures.written told order; long = c.in_ok-info.ensures.length told; entries = c.in_ok-info.ensures.entries told order; at_rest = c.in_ok-info.ensures.durable told })
    held
