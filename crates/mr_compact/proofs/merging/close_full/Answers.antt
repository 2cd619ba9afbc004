use Rattle.std.proofs.Common.{◌∷◌, sym, ◌∙◌}
use Rattle.mr_compact.proofs.Outside.{on_ok}
use Rattle.mr_compact.proofs.Joining.{stays_open, is_past, begins_anew}
use Rattle.mr_compact.proofs.merging.close_full.Goals as goal

pub returns-then-not-is_full-clause-holds : goal.returns-then-not-is_full-clause-holds
returns-then-not-is_full-clause-holds g c = λ v vs all same told held.
    stays_open (g.W.RunOut.run (g.W.RunOut.out c.args.out.now).direction) c.args.written.now.last (g.D.Disk.disk c.args.disk.now) (g.W.RunOut.out c.args.out.now) c.args.written.now.runs c.args.key.now v vs all same (sym c.is_full.ensures ∙ c.if-not-is_full.true) held

pub returns-clause-holds : goal.returns-clause-holds
returns-clause-holds g c = λ v vs all same told held.
    on_ok c.close_run.result (begins_anew (g.W.RunOut.run (g.W.RunOut.out c.args.out.now).direction) c.close_run.new.written.last (g.D.Disk.disk c.close_run.new.disk) (g.W.RunOut.out c.close_run.new.out) c.close_run.new.written.runs v vs all c.close_run.ensures.closed)
    (c.close_run.ensures.holds (v ∷ vs) all told (is_past (g.W.RunOut.run (g.W.RunOut.out c.args.out.now).direction) c.args.written.now.last (g.D.Disk.disk c.args.disk.now) (g.W.RunOut.out c.args.out.now) c.args.written.now.runs c.args.key.now v vs all same (sym c.is_full.ensures ∙ c.if-not-is_full.false) held))
