use Rattle.std.proofs.Common.{List, Result, ℕ, None, subst}
use Rattle.mr_types.specs.declared.statement.Statement.{Statement}
use Rattle.mr_commit_log.specs.Appending.{early}
use Rattle.mr_run.specs.Clocks.{clock_of}
use Rattle.mr_run.specs.Serving.{Serves}
use Rattle.mr_run.proofs.Served.{served_nothing}
use Rattle.mr_run.proofs.Texts.{some_rest, no_rest}
use Rattle.mr_run.proofs.shell.Shell.finish.Goals as goal

pub returns-then-not-self-clause-serves : goal.returns-then-not-self-clause-serves
returns-then-not-self-clause-serves g c = λ since h.
    let server = c.args.self.now.server in
    let clock = clock_of c.args.self.now.given (g.C.Clock.clock c.args.clock.now) in
    let disk = g.H.Disk.disk c.args.host.now in
    subst (λ (ss : List (Result Statement ℕ)). Serves server server clock clock disk disk None ss) (no_rest since c.args.self.now.part.begun h.begun c.if-not-self.true) (served_nothing server clock disk)

pub returns-clause-serves : goal.returns-clause-serves
returns-clause-serves g c = λ since h.
    let given = c.args.self.now.given in
    subst (λ (ss : List (Result Statement ℕ)). Serves c.args.self.now.server c.serve_next.new.self.server (clock_of given (g.C.Clock.clock c.args.clock.now)) (clock_of given (g.C.Clock.clock c.serve_next.new.clock)) (g.H.Disk.disk c.args.host.now) (g.H.Disk.disk c.serve_next.new.host) (early c.serve_next.result) ss)
    (some_rest since c.args.self.now.part.begun h.begun c.if-not-self.false) c.serve_next.ensures.serves
