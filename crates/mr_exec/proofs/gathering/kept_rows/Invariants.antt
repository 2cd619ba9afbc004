use Rattle.std.proofs.Common.{◌≡◌, List, ◌++◌, filter}
use Rattle.mr_types.specs.declared.row.Row.{Row}
use Rattle.mr_bound.specs.BoundSelects.{keeps, reply_by}
use Rattle.mr_exec.specs.Holding.{Holds}
use Rattle.mr_exec.proofs.gathering.kept_rows.Given as goal

abbrev pub invariant-walk : goal.invariant-walk
invariant-walk g l = record {
  reaches : g.S.RowSource.reaches l.initial.source l.source;
  def : g.S.Fields.def l.source ≡ g.S.Fields.def l.initial.source;
  stopped : g.S.RowSource.stopped l.source ≡ g.S.RowSource.stopped l.initial.source;
  told : g.S.RowSource.told l.initial.source → g.S.RowSource.told l.source;
  kept : g.S.RowSource.told l.initial.source → (seen : List Row) × Holds (reply_by l.def l.order) l.reach l.held seen × (seen ++ filter (keeps (g.S.Fields.def l.initial.source) l.condition) (g.S.RowSource.rows l.source) ≡ filter (keeps (g.S.Fields.def l.initial.source) l.condition) (g.S.RowSource.rows l.initial.source));
}

abbrev pub decreases-walk : goal.decreases-walk
decreases-walk g l = g.S.RowSource.steps l.source
