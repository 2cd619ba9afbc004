use Rattle.std.proofs.Common.{◌≡◌, filter, map}
use Rattle.std.specs.Prelude.{fold}
use Rattle.mr_bound.specs.BoundSelects.{keeps}
use Rattle.mr_exec.specs.Gathering.{found_with, found_in}
use Rattle.mr_exec.proofs.gathering.found_rows.Given as goal

abbrev pub invariant-walk : goal.invariant-walk
invariant-walk g l = record {
  reaches : g.S.RowSource.reaches l.initial.source l.source;
  def : g.S.Fields.def l.source ≡ g.S.Fields.def l.initial.source;
  stopped : g.S.RowSource.stopped l.source ≡ g.S.RowSource.stopped l.initial.source;
  told : g.S.RowSource.told l.initial.source → g.S.RowSource.told l.source;
  found : g.S.RowSource.told l.initial.source → map (λ f. fold (found_with l.def) f (filter (keeps (g.S.Fields.def l.initial.source) l.condition) (g.S.RowSource.rows l.source))) l.all.items ≡ map (found_in l.def (filter (keeps (g.S.Fields.def l.initial.source) l.condition) (g.S.RowSource.rows l.initial.source))) l.aggregates;
}

abbrev pub decreases-walk : goal.decreases-walk
decreases-walk g l = g.S.RowSource.steps l.source
