use Rattle.std.proofs.Common.{◌∙◌, List, Result, ℕ, None, subst, sym}
use Rattle.mr_types.specs.declared.statement.Statement.{Statement}
use Rattle.mr_commit_log.specs.Appending.{early}
use Rattle.mr_run.specs.Clocks.{clock_of}
use Rattle.mr_run.specs.Serving.{Serves}
use Rattle.mr_run.proofs.Served.{served_nothing, served_none}
use Rattle.mr_run.proofs.Texts.{no_text, some_text}
use Rattle.mr_run.proofs.shell.Shell.serve_text.Goals as goal

pub returns-then-is_empty-clause-serves : goal.returns-then-is_empty-clause-serves
returns-then-is_empty-clause-serves g c =
    let server = c.args.self.now.server in
    let clock = clock_of c.args.self.now.given (g.C.Clock.clock c.args.clock.now) in
    let disk = g.H.Disk.disk c.args.host.now in
    subst (λ (ss : List (Result Statement ℕ)). Serves server server clock clock disk disk None ss) (no_text c.args.text.now (sym c.is_empty.ensures ∙ c.if-is_empty.true)) (served_nothing server clock disk)

pub returns-in_err-statement-clause-serves : goal.returns-in_err-statement-clause-serves
returns-in_err-statement-clause-serves g c = served_none _ _ _ _ c.from_residual.result c.from_residual.ensures.1

pub returns-clause-serves : goal.returns-clause-serves
returns-clause-serves g c =
    let given = c.args.self.now.given in
    subst (λ (ss : List (Result Statement ℕ)). Serves c.args.self.now.server c.serve_next.new.self.server (clock_of given (g.C.Clock.clock c.args.clock.now)) (clock_of given (g.C.Clock.clock c.serve_next.new.clock)) (g.H.Disk.disk c.args.host.now) (g.H.Disk.disk c.serve_next.new.host) (early c.serve_next.result) ss)
    (some_text c.args.text.now c.in_ok-statement.statement (sym c.is_empty.ensures ∙ c.if-is_empty.false) c.in_ok-statement.ensures.read) c.serve_next.ensures.serves
