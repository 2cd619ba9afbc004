use Rattle.std.proofs.Common.{◌∙◌, sym}
use Rattle.std.specs.Prelude.{map, string_bytes}
use Rattle.mr_run.proofs.Concluding.{headline_done, headline_early}
use Rattle.mr_run.proofs.Whole.{damaged_unreadable, low_status}
use Rattle.mr_run.proofs.Wording.{headline_of}
use Rattle.mr_run.proofs.top_call.run.Goals as goal

pub returns-in-Ok-clause-headline : goal.returns-in-Ok-clause-headline
returns-in-Ok-clause-headline g c = λ form tells commits stands pending.
    let words = map string_bytes c.args.words.now in
    headline_of words c.in-Some.options c.unwrap_or-limit.result (sym c.options_of.ensures.options ∙ c.in-Some.is) c.unwrap_or-limit.ensures _ _ (g.C.Clock.clock c.args.clock.now) _ _ c.end_status.result c.run_all.new.report commits
    (headline_done c.unwrap_or-limit.result _ _ _ _ _ c.end_status.result c.run_all.new.report c.in-Ok.failed commits c.in-Ok.ensures.ended c.end_status.ensures (low_status c.in-Ok.failed c.end_status.result c.end_status.ensures)
    (c.in-Ok.ensures.runs tells commits stands pending))

pub returns-in-Err-clause-headline : goal.returns-in-Err-clause-headline
returns-in-Err-clause-headline g c = λ form tells commits stands pending.
    let words = map string_bytes c.args.words.now in
    let source = g.S.Source.source c.args.source.now in
    let source_new = g.S.Source.source c.run_all.new.source in
    headline_of words c.in-Some.options c.unwrap_or-limit.result (sym c.options_of.ensures.options ∙ c.in-Some.is) c.unwrap_or-limit.ensures source source_new (g.C.Clock.clock c.args.clock.now) _ _ c.status_of.result (record c.run_all.new.report { stop = c.stop_of-report.result }) commits
    (headline_early c.unwrap_or-limit.result source source_new _ _ _ c.status_of.result (record c.run_all.new.report { stop = c.stop_of-report.result }) c.in-Err.ending commits
    c.status_of.ensures c.stop_of-report.ensures c.in-Err.ensures.cause
    (λ seven. damaged_unreadable c.unwrap_or-limit.result source source_new (g.H.Disk.disk c.args.host.now) (g.H.Disk.disk c.run_all.new.host) c.run_all.new.report.taken c.in-Err.ending seven c.in-Err.ensures.cause tells (commits, stands.log))
    (c.in-Err.ensures.runs tells commits stands pending))

pub returns-in-Err-clause-damaged : goal.returns-in-Err-clause-damaged
returns-in-Err-clause-damaged g c = λ is tells readable.
    damaged_unreadable c.unwrap_or-limit.result (g.S.Source.source c.args.source.now) (g.S.Source.source c.run_all.new.source) (g.H.Disk.disk c.args.host.now) (g.H.Disk.disk c.run_all.new.host) c.run_all.new.report.taken c.in-Err.ending (let e = c.status_of.ensures in sym e ∙ is) c.in-Err.ensures.cause tells readable
