use Rattle.std.proofs.Common.{◌≡◌, ◌++◌, ◌∷◌, [], rules, subst, Bool, true, List, filter}
use Rattle.mr_types.specs.declared.definition.TableDef.{TableDef}
use Rattle.mr_types.specs.declared.row.Row.{Row}
use Rattle.mr_bound.specs.BoundSelects.{keeps, reply_by}
use Rattle.mr_exec.specs.Sources.{Stepped}
use Rattle.mr_exec.specs.Holding.{Holds}
use Rattle.mr_exec.proofs.Behind.{kept-passed, if-on}
use Rattle.mr_exec.proofs.gathering.kept_rows.Goals as goal

pub walk-preserved : goal.walk-preserved
walk-preserved g c = record {
  reaches = search rules;
  def = search rules;
  stopped = search rules;
  told = search rules;
  kept = λ t.
      let cmp = reply_by c.args.def.now c.args.order.now in
      let here = g.S.Fields.def c.args.source.now in
      let now = g.S.Fields.current c.next_kept.new.source in
      kept-passed cmp c.args.reach c.walk.held (filter (keeps here c.args.condition.now) (g.S.RowSource.rows c.walk.source)) (filter (keeps here c.args.condition.now) (g.S.RowSource.rows c.next_kept.new.source)) (filter (keeps here c.args.condition.now) (g.S.RowSource.rows c.args.source.now)) now
      (subst (λ (b : Bool). Stepped b (filter (keeps here c.args.condition.now) (g.S.RowSource.rows c.walk.source)) now (filter (keeps here c.args.condition.now) (g.S.RowSource.rows c.next_kept.new.source))) c.if-branch.true
      (subst (λ (d : TableDef). Stepped c.in_ok-next_kept.field-0 (filter (keeps d c.args.condition.now) (g.S.RowSource.rows c.walk.source)) now (filter (keeps d c.args.condition.now) (g.S.RowSource.rows c.next_kept.new.source))) c.walk.invariant.def (c.in_ok-next_kept.ensures.moved (c.walk.invariant.told t))))
      (if-on now
      (λ r. c.passes.result ≡ true → (seen : List Row) → Holds cmp c.args.reach c.walk.held seen → Holds cmp c.args.reach c.walk.held (seen ++ r ∷ []))
      (λ r. (seen : List Row) → Holds cmp c.args.reach c.walk.held seen → Holds cmp c.args.reach c.walk.held (seen ++ r ∷ []))
      (λ r each. each c.if-not-passes.false) c.passes.ensures)
      (c.walk.invariant.kept t);
}
