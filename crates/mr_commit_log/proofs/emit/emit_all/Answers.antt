use Rattle.std.proofs.Common.{◌∙◌, ◌++◌, ap, sym, arith, take_all, append-nil, Result, Ok, Err, OnErr}
use Rattle.mr_base.specs.Disk.{present, HasRisen}
use Rattle.mr_base.proofs.Counting.{emit_tells}
use Rattle.mr_commit_log.specs.Emitting.{IsCutShort}
use Rattle.mr_commit_log.proofs.Emitted.{emit_counts_start, emit_counts_then, shown_start, shown_on, shown_same, output_on}
use Rattle.mr_commit_log.proofs.emit.emit_all.Goals as goal

on_err : {T E : Type 0} (P : Type 0) (r : Result T E) → P → OnErr r P
on_err P (Ok x) p = tt
on_err P (Err e) p = p

pub loop-at-init : goal.loop-at-init
loop-at-init g c = record {
  within = omega arith;
  counts = emit_counts_start _;
  during = λ tells. shown_start c.args.text.now _;
  shown = λ tells. sym (append-nil _);
}

pub returns-in_err-count-clause-counts : goal.returns-in_err-count-clause-counts
returns-in_err-count-clause-counts g c = emit_counts_then _ _ _ c.loop-at.invariant.counts c.in_err-count.ensures.counts

pub returns-in_err-count-clause-cause : goal.returns-in_err-count-clause-cause
returns-in_err-count-clause-cause g c = on_err (HasRisen (g.H.Disk.disk c.args.host.now).emit_faults (g.H.Disk.disk c.emit.new.self).emit_faults) c.from_residual.result (omega (arith, c.loop-at.invariant.counts.emit_faults, c.in_err-count.ensures.cause))

pub returns-in_err-count-clause-any_moment : goal.returns-in_err-count-clause-any_moment
returns-in_err-count-clause-any_moment g c = λ tells.
    let inv = c.loop-at.invariant in
    shown_same c.args.text.now _ _ _ (inv.during tells) (c.in_err-count.ensures.nothing (emit_tells _ _ inv.counts tells))

pub returns-in_err-count-clause-cut_short : goal.returns-in_err-count-clause-cut_short
returns-in_err-count-clause-cut_short g c = λ tells.
    let inv = c.loop-at.invariant in
    let nothing = c.in_err-count.ensures.nothing (emit_tells _ _ inv.counts tells) in
    on_err (IsCutShort c.args.text.now (present (g.H.Disk.disk c.args.host.now)).output (present (g.H.Disk.disk c.emit.new.self)).output) c.from_residual.result record { count = c.loop-at.at; less = c.loop-at-test.true; output = nothing.whole ∙ append-nil _ ∙ inv.shown tells }

pub loop-at-preserved : goal.loop-at-preserved
loop-at-preserved g c =
    let inv = c.loop-at.invariant in
    record {
      within = grind (arith, c.in_ok-count.ensures.fits);
      counts = emit_counts_then _ _ _ inv.counts c.in_ok-count.ensures.counts;
      during = λ tells. shown_on c.args.text.now c.loop-at.at c.in_ok-count.count _ _ _ (inv.during tells) (inv.shown tells) (c.in_ok-count.ensures.appended (emit_tells _ _ inv.counts tells));
      shown = λ tells. output_on c.args.text.now c.loop-at.at c.in_ok-count.count _ _ _ (inv.shown tells) (c.in_ok-count.ensures.appended (emit_tells _ _ inv.counts tells)).whole;
    }

pub returns-clause-counts : goal.returns-clause-counts
returns-clause-counts g c = c.loop-at.invariant.counts

pub returns-clause-any_moment : goal.returns-clause-any_moment
returns-clause-any_moment g c = c.loop-at.invariant.during

pub returns-clause-whole : goal.returns-clause-whole
returns-clause-whole g c = λ tells.
    let inv = c.loop-at.invariant in
    inv.shown tells ∙ ap (λ x. (present (g.H.Disk.disk c.args.host.now)).output ++ x) (take_all c.loop-at.at c.args.text.now (omega (arith, inv.within, c.loop-at-test.false)))
