use Rattle.std.proofs.Common.{◌∙◌, List, Result, ℕ, None, subst, sym, ap, map}
use Rattle.mr_lex.specs.Cutting.{as_part}
use Rattle.mr_spec.specs.ScriptRun.{read_part}
use Rattle.mr_types.specs.declared.statement.Statement.{Statement}
use Rattle.mr_commit_log.specs.Appending.{early}
use Rattle.mr_run.specs.Clocks.{clock_of}
use Rattle.mr_run.specs.Holding.{given_by}
use Rattle.mr_run.specs.Serving.{Serves}
use Rattle.mr_run.proofs.Served.{served_nothing, served_none}
use Rattle.mr_run.proofs.shell.Shell.feed.Goals as goal

pub returns-in_err-feed-clause-serves : goal.returns-in_err-feed-clause-serves
returns-in_err-feed-clause-serves g c = λ since h. served_none _ _ _ _ c.from_residual.result c.from_residual.ensures.1

pub returns-in-None-clause-serves : goal.returns-in-None-clause-serves
returns-in-None-clause-serves g c = λ since h.
    let server = c.args.self.now.server in
    let clock = clock_of c.args.self.now.given (g.C.Clock.clock c.args.clock.now) in
    let disk = g.H.Disk.disk c.args.host.now in
    subst (λ (ss : List (Result Statement ℕ)). Serves server server clock clock disk disk None ss) (ap given_by (sym c.in-None.is) ∙ c.in_ok-feed.ensures.ended since h) (served_nothing server clock disk)

pub returns-in-Some-clause-serves : goal.returns-in-Some-clause-serves
returns-in-Some-clause-serves g c = λ since h.
    let given = c.args.self.now.given in
    subst (λ (ss : List (Result Statement ℕ)). Serves c.args.self.now.server c.serve_text.new.self.server (clock_of given (g.C.Clock.clock c.args.clock.now)) (clock_of given (g.C.Clock.clock c.serve_text.new.clock)) (g.H.Disk.disk c.args.host.now) (g.H.Disk.disk c.serve_text.new.host) (early c.serve_text.result) ss)
    (ap (λ x. map read_part (as_part x)) c.as_slice.ensures ∙ ap given_by (sym c.in-Some.is) ∙ c.in_ok-feed.ensures.ended since h) c.serve_text.ensures.serves
