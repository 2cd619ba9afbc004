use Rattle.std.proofs.Common.{◌≡◌, ◌∙◌, List, IfOk, ap, sym, subst, filter}
use Rattle.mr_types.specs.declared.definition.TableDef.{TableDef}
use Rattle.mr_types.specs.declared.value.Value.{Value}
use Rattle.mr_bound.specs.declared.bound.BoundColumns.{BoundColumns}
use Rattle.mr_bound.specs.declared.bound.BoundColumns.TheVariants.{Places, Aggregates}
use Rattle.mr_bound.specs.BoundSelects.{keeps}
use Rattle.mr_exec.proofs.Replying.{shown, reply-of-kept}
use Rattle.mr_exec.proofs.selecting.select.Goals as goal

pub returns-in-Places-clause-reply : goal.returns-in-Places-clause-reply
returns-in-Places-clause-reply g c = λ t.
    let rows = g.S.RowSource.rows c.args.source.now in
    let kept = filter (keeps c.args.def.now c.args.select.now.condition) rows in
    subst (λ (table : List (List Value)). IfOk c.listed.result (λ found. found ≡ table))
    (ap (λ (d : TableDef). shown c.args.def.now c.args.select.now (Places c.as_slice.result.now) (filter (keeps d c.args.select.now.condition) rows)) (sym c.requires)
    ∙ ap (λ (columns : BoundColumns). shown c.args.def.now c.args.select.now columns kept) (ap Places c.as_slice.ensures ∙ sym c.in-Places.is)
    ∙ reply-of-kept c.args.def.now c.args.select.now rows)
    (c.listed.ensures.reply t)

pub returns-in-Aggregates-clause-reply : goal.returns-in-Aggregates-clause-reply
returns-in-Aggregates-clause-reply g c = λ t.
    let rows = g.S.RowSource.rows c.args.source.now in
    let kept = filter (keeps c.args.def.now c.args.select.now.condition) rows in
    subst (λ (table : List (List Value)). IfOk c.aggregated.result (λ found. found ≡ table))
    (ap (λ (d : TableDef). shown c.args.def.now c.args.select.now (Aggregates c.as_slice-in-Aggregates.result.now) (filter (keeps d c.args.select.now.condition) rows)) (sym c.requires)
    ∙ ap (λ (columns : BoundColumns). shown c.args.def.now c.args.select.now columns kept) (ap Aggregates c.as_slice-in-Aggregates.ensures ∙ sym c.in-Aggregates.is)
    ∙ reply-of-kept c.args.def.now c.args.select.now rows)
    (c.aggregated.ensures.reply t)
