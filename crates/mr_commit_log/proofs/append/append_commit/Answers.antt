use Rattle.std.proofs.Common.{◌∙◌, Some, None, Err, ap, sym, subst, length, refl, ◌≤◌, ◌^◌, List, ℕ}
use Rattle.mr_base.specs.declared.stop.Stop.TheVariants.{Memory}
use Rattle.mr_commit_log.specs.Causes.{IsCausedBy}
use Rattle.mr_commit_log.specs.LogCommits.{read_commit}
use Rattle.mr_commit_log.specs.declared.ending.Ending.TheVariants.{Stopped}
use Rattle.mr_commit_log.proofs.Appending.{appends_nothing, appends_one, appends_early, append_cause, full_answer}
use Rattle.mr_commit_log.proofs.Early.{err_is}
use Rattle.mr_commit_log.proofs.append.append_commit.Goals as goal

pub returns-in_err-body-clause-appends : goal.returns-in_err-body-clause-appends
returns-in_err-body-clause-appends g c = λ before lawful.
    appends_early _ _ _ _ before c.from_residual.result (Stopped Memory) c.from_residual.ensures.1 (appends_nothing _ _ _ (Stopped Memory) before (λ what at limit q. cc))

pub returns-in_err-append-clause-appends : goal.returns-in_err-append-clause-appends
returns-in_err-append-clause-appends g c = λ before lawful.
    let e = c.in_err-append.ensures in
    let log = c.args.log.now.gate in
    let bytes = c.as_slice.ensures in
    appends_early _ _ _ _ before c.from_residual-in_err-append.result (Stopped c.in_err-append.field-0.0) c.from_residual-in_err-append.ensures.1
    (appends_one log.limit _ _ log c.as_slice.result.now c.args.commit.now (Some (Stopped c.in_err-append.field-0.0)) before refl c.requires.ready
    (ap read_commit bytes ∙ c.in_ok-body.ensures.read before lawful) lawful
    e.any_moment (λ tells d. cc) (λ tells d. cc) (λ d room. cc)
    (λ what at limit q. full_answer _ _ log (length c.as_slice.result.now) c.in_err-append.field-0.0 what at limit e.answers (λ room. (e.full room).1) (cc)))

pub returns-clause-appends : goal.returns-clause-appends
returns-clause-appends g c = λ before lawful.
    let e = c.in_ok-append.ensures in
    let log = c.args.log.now.gate in
    let bytes = c.as_slice.ensures in
    appends_one log.limit _ _ log c.as_slice.result.now c.args.commit.now None before refl c.requires.ready
    (ap read_commit bytes ∙ c.in_ok-body.ensures.read before lawful) lawful
    e.any_moment (λ tells d. e.added tells) (λ tells d. e.durable tells) (λ d room. let q = (e.full room).0 in cc) (λ what at limit q. cc)

pub returns-in_err-append-clause-cause : goal.returns-in_err-append-clause-cause
returns-in_err-append-clause-cause g c =
    let e = c.in_err-append.ensures in
    let log = c.args.log.now.gate in
    let size : length c.as_slice.result.now ≤ 2 ^ 29 = subst (λ (b : List ℕ). length b ≤ 2 ^ 29) (sym c.as_slice.ensures) c.in_ok-body.ensures.short in
    err_is c.from_residual-in_err-append.result (Stopped c.in_err-append.field-0.0) (IsCausedBy log.limit (g.H.Disk.disk c.args.host.now) (g.H.Disk.disk c.append.new.disk)) c.from_residual-in_err-append.ensures.1
    (append_cause log.limit _ _ log (length c.as_slice.result.now) c.in_err-append.field-0.0 refl c.requires.ready size e.answers (λ q. e.failed (ap Err q)) (λ room. (e.full room).1))
