use Rattle.std.proofs.Common.{◌∙◌, sym, subst, take_all, None, List, IfErr, ℕ}
use Rattle.mr_types.specs.declared.row.Commit.{Commit}
use Rattle.mr_commit_log.specs.Appending.{Appends}
use Rattle.mr_commit_log.specs.Causes.{IsCausedBy}
use Rattle.mr_commit_log.proofs.Appending.{appends_none, appends_early}
use Rattle.mr_commit_log.proofs.Each.{appends_next, appends_next_cut}
use Rattle.mr_commit_log.proofs.Early.{err_is}
use Rattle.mr_commit_log.proofs.GoingOn.{goes_nowhere, goes_then, goes_tells, cause_later}
use Rattle.mr_commit_log.proofs.append.append_all.Goals as goal

pub appending-init : goal.appending-init
appending-init g c = record {
  ready = c.requires.ready;
  limit = Rattle.std.proofs.Common.refl;
  appends = λ before lawful. appends_none _ _ before;
  goes_on = goes_nowhere _;
}

pub returns-in_err-append_commit-clause-appends : goal.returns-in_err-append_commit-clause-appends
returns-in_err-append_commit-clause-appends g c = λ before lawful.
    let inv = c.appending.invariant in
    appends_early _ _ _ _ before c.from_residual.result c.in_err-append_commit.field-0.0 c.from_residual.ensures.1
    (appends_next_cut c.args.log.now.gate.limit c.appending.log.gate.limit _ (g.H.Disk.disk c.appending.host) _ before c.args.commits.now c.appending.commit-index c.commit-item.result c.in_err-append_commit.field-0.0 inv.limit c.appending-test.true c.commit-item.is lawful
    (goes_tells _ _ inv.goes_on) (inv.appends before) c.in_err-append_commit.ensures.appends)

pub returns-in_err-append_commit-clause-cause : goal.returns-in_err-append_commit-clause-cause
returns-in_err-append_commit-clause-cause g c =
    let inv = c.appending.invariant in
    let disk = g.H.Disk.disk in
    err_is c.from_residual.result c.in_err-append_commit.field-0.0 (IsCausedBy c.args.log.now.gate.limit (disk c.args.host.now) (disk c.append_commit.new.host)) c.from_residual.ensures.1
    (cause_later c.args.log.now.gate.limit (disk c.args.host.now) (disk c.appending.host) (disk c.append_commit.new.host) c.in_err-append_commit.field-0.0 inv.goes_on
    (subst (λ (n : ℕ). IsCausedBy n (disk c.appending.host) (disk c.append_commit.new.host) c.in_err-append_commit.field-0.0) inv.limit c.in_err-append_commit.ensures.cause))

pub appending-preserved : goal.appending-preserved
appending-preserved g c =
    let inv = c.appending.invariant in
    let e = c.in_ok-append_commit.ensures in
    record {
      ready = e.ready;
      limit = e.limit ∙ inv.limit;
      appends = λ before lawful. appends_next c.args.log.now.gate.limit c.appending.log.gate.limit _ (g.H.Disk.disk c.appending.host) _ before c.args.commits.now c.appending.commit-index c.commit-item.result None inv.limit c.appending-test.true c.commit-item.is lawful
          (goes_tells _ _ inv.goes_on) (inv.appends before) e.appends;
      goes_on = goes_then _ _ _ inv.goes_on e.goes_on;
    }

pub returns-clause-appends : goal.returns-clause-appends
returns-clause-appends g c = λ before lawful.
    let inv = c.appending.invariant in
    subst (λ (y : List Commit). Appends c.args.log.now.gate.limit (g.H.Disk.disk c.args.host.now) (g.H.Disk.disk c.appending.host) y None before) (take_all c.appending.commit-index c.args.commits.now c.appending-test.false) (inv.appends before lawful)
