use Rattle.mr_commit_log.proofs.GoingOn.{goes_tells}
use Rattle.mr_run.proofs.Readable.{readable_served, unreadable_none}
use Rattle.mr_run.proofs.Whole.{settled_at_rest, run_unopened, run_cut, run_done}
use Rattle.mr_run.proofs.top_call.run_all.Goals as goal

pub returns-in_err-open-clause-runs : goal.returns-in_err-open-clause-runs
returns-in_err-open-clause-runs g c = λ tells commits stands pending.
    run_unopened _ _ c.args.report.now.taken _ _ _ _ c.from_residual.result c.in_err-open.field-0.0 commits c.from_residual.ensures.1 c.in_err-open.ensures.cause stands.lawful c.requires.fresh.0 c.requires.fresh.1 (goes_tells _ _ c.in_err-open.ensures.goes_on tells)
    (c.in_err-open.ensures.any_moment tells commits _ (settled_at_rest _ commits stands pending))

pub returns-in_err-answer-clause-runs : goal.returns-in_err-answer-clause-runs
returns-in_err-answer-clause-runs g c = λ tells commits stands pending.
    let o = c.in_ok-open.ensures in
    let settled = settled_at_rest _ commits stands pending in
    run_cut _ _ c.serve_all-answer.new.taken _ _ _ _ _ c.in_ok-open.field-0 c.serve_all-answer.new.self.server c.from_residual-in_err-answer.result c.in_err-answer.field-0.0 commits c.from_residual-in_err-answer.ensures.1 o.fresh.1 o.fresh.2 (goes_tells _ _ o.goes_on tells)
    (o.settled tells commits _ settled) (o.any_moment tells commits _ settled) (o.stands tells commits stands.log stands.lawful) c.in_err-answer.ensures.serves

pub returns-clause-runs : goal.returns-clause-runs
returns-clause-runs g c = λ tells commits stands pending.
    let o = c.in_ok-open.ensures in
    let settled = settled_at_rest _ commits stands pending in
    run_done _ _ c.serve_all-answer.new.taken _ _ _ _ _ c.in_ok-open.field-0 c.serve_all-answer.new.self.server commits o.fresh.1 o.fresh.0 o.fresh.2 (goes_tells _ _ o.goes_on tells)
    (o.settled tells commits _ settled) (o.any_moment tells commits _ settled) (o.stands tells commits stands.log stands.lawful) c.in_ok-answer.ensures.serves

pub returns-in_err-answer-clause-readable : goal.returns-in_err-answer-clause-readable
returns-in_err-answer-clause-readable g c = λ tells. readable_served c.from_residual-in_err-answer.result (g.H.Disk.disk c.args.host.now) c.in_ok-open.field-0.engine.commits (c.in_ok-open.ensures.holds tells)

pub returns-in_err-answer-clause-silent : goal.returns-in_err-answer-clause-silent
returns-in_err-answer-clause-silent g c = λ tells unreadable. unreadable_none (g.H.Disk.disk c.args.host.now) c.in_ok-open.field-0.engine.commits (c.in_ok-open.ensures.holds tells) unreadable

pub returns-clause-silent : goal.returns-clause-silent
returns-clause-silent g c = λ tells unreadable. unreadable_none (g.H.Disk.disk c.args.host.now) c.in_ok-open.field-0.engine.commits (c.in_ok-open.ensures.holds tells) unreadable
