use Rattle.std.proofs.Common.{◌≡◌, ◌∙◌, rules, ap, sym, subst, refl, Bool, [], filter, map}
use Rattle.std.specs.Prelude.{fold}
use Rattle.mr_types.specs.declared.definition.TableDef.{TableDef}
use Rattle.mr_bound.specs.BoundSelects.{keeps}
use Rattle.mr_exec.specs.Sources.{Stepped}
use Rattle.mr_exec.specs.Gathering.{found_with}
use Rattle.mr_exec.proofs.Finding.{nothing-yet, nothing-more, one-more-found}
use Rattle.mr_exec.proofs.gathering.found_rows.Goals as goal

pub walk-init : goal.walk-init
walk-init g c = record {
  reaches = search rules;
  def = refl;
  stopped = refl;
  told = λ t. t;
  found = λ t.
      ap (map (λ f. fold (found_with c.args.def.now) f (filter (keeps (g.S.Fields.def c.args.source.now) c.args.condition.now) (g.S.RowSource.rows c.args.source.now)))) c.in_ok-all.ensures
      ∙ nothing-yet c.args.def.now (filter (keeps (g.S.Fields.def c.args.source.now) c.args.condition.now) (g.S.RowSource.rows c.args.source.now)) c.args.aggregates.now;
}

pub walk-preserved : goal.walk-preserved
walk-preserved g c = record {
  reaches = search rules;
  def = search rules;
  stopped = search rules;
  told = search rules;
  found = λ t.
      let here = g.S.Fields.def c.args.source.now in
      one-more-found c.args.def.now (filter (keeps here c.args.condition.now) (g.S.RowSource.rows c.walk.source)) (filter (keeps here c.args.condition.now) (g.S.RowSource.rows c.next_kept.new.source)) (g.S.Fields.current c.next_kept.new.source) c.walk.all.items c.find_each.new.all.items _
      (subst (λ (b : Bool). Stepped b (filter (keeps here c.args.condition.now) (g.S.RowSource.rows c.walk.source)) (g.S.Fields.current c.next_kept.new.source) (filter (keeps here c.args.condition.now) (g.S.RowSource.rows c.next_kept.new.source))) c.if-branch.true
      (subst (λ (d : TableDef). Stepped c.in_ok-next_kept.field-0 (filter (keeps d c.args.condition.now) (g.S.RowSource.rows c.walk.source)) (g.S.Fields.current c.next_kept.new.source) (filter (keeps d c.args.condition.now) (g.S.RowSource.rows c.next_kept.new.source))) c.walk.invariant.def (c.in_ok-next_kept.ensures.moved (c.walk.invariant.told t))))
      c.in_ok-find_each.ensures
      (c.walk.invariant.found t);
}

pub returns-clause-found : goal.returns-clause-found
returns-clause-found g c = λ t.
    let here = g.S.Fields.def c.args.source.now in
    let ended : Stepped c.in_ok-next_kept.field-0 (filter (keeps here c.args.condition.now) (g.S.RowSource.rows c.walk.source)) (g.S.Fields.current c.next_kept.new.source) (filter (keeps here c.args.condition.now) (g.S.RowSource.rows c.next_kept.new.source)) =
    subst (λ (d : TableDef). Stepped c.in_ok-next_kept.field-0 (filter (keeps d c.args.condition.now) (g.S.RowSource.rows c.walk.source)) (g.S.Fields.current c.next_kept.new.source) (filter (keeps d c.args.condition.now) (g.S.RowSource.rows c.next_kept.new.source))) c.walk.invariant.def (c.in_ok-next_kept.ensures.moved (c.walk.invariant.told t)) in
    let none : filter (keeps here c.args.condition.now) (g.S.RowSource.rows c.walk.source) ≡ [] =
    (subst (λ (b : Bool). Stepped b (filter (keeps here c.args.condition.now) (g.S.RowSource.rows c.walk.source)) (g.S.Fields.current c.next_kept.new.source) (filter (keeps here c.args.condition.now) (g.S.RowSource.rows c.next_kept.new.source))) c.if-branch.false ended).0 in
    sym (nothing-more c.args.def.now c.walk.all.items) ∙ ap (λ l. map (λ f. fold (found_with c.args.def.now) f l) c.walk.all.items) (sym none) ∙ c.walk.invariant.found t
