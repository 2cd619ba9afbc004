use Rattle.std.proofs.Common.{◌≡◌, ◌≤◌, filter}
use Rattle.mr_bound.specs.BoundSelects.{keeps}
use Rattle.mr_exec.proofs.steps.next_kept.Given as goal

abbrev pub invariant-walk : goal.invariant-walk
invariant-walk g l = record {
  reaches : g.S.RowSource.reaches l.initial.source l.source;
  def : g.S.Fields.def l.source ≡ g.S.Fields.def l.initial.source;
  stopped : g.S.RowSource.stopped l.source ≡ g.S.RowSource.stopped l.initial.source;
  steps : g.S.RowSource.steps l.source ≤ g.S.RowSource.steps l.initial.source;
  told : g.S.RowSource.told l.initial.source → g.S.RowSource.told l.source;
  moved : g.S.RowSource.told l.initial.source → filter (keeps (g.S.Fields.def l.initial.source) l.condition) (g.S.RowSource.rows l.source) ≡ filter (keeps (g.S.Fields.def l.initial.source) l.condition) (g.S.RowSource.rows l.initial.source);
}

abbrev pub decreases-walk : goal.decreases-walk
decreases-walk g l = g.S.RowSource.steps l.source
