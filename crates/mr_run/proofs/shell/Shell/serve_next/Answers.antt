use Rattle.mr_run.specs.Clocks.{clock_of}
use Rattle.mr_run.proofs.Nexts.{goes_tells, served_next}
use Rattle.mr_run.proofs.shell.Shell.serve_next.Goals as goal

pub returns-clause-serves : goal.returns-clause-serves
returns-clause-serves g c =
    let given = c.args.self.now.given in
    let old = g.C.Clock.clock c.args.clock.now in
    let new = g.C.Clock.clock c.next_value-value.new.clock in
    let v = c.next_value-value.ensures in
    let e = c.serve.ensures in
    served_next c.args.self.now.server c.serve.new.self (clock_of given old) (clock_of given new) (g.H.Disk.disk c.args.host.now) (g.H.Disk.disk c.serve.new.host) c.args.statement.now c.next_value-value.result c.serve.result
    v.value v.next (goes_tells given old new v.goes) c.requires.spelled e.limit e.runs e.stands e.failed
