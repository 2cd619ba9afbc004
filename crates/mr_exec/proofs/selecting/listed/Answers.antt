use Rattle.std.proofs.Common.{◌∙◌, List, ap, subst, filter, map}
use Rattle.mr_bound.specs.declared.bound.BoundOrder.{BoundOrder}
use Rattle.mr_bound.specs.BoundSelects.{keeps, reply_by}
use Rattle.mr_spec.specs.Select.{listed}
use Rattle.mr_exec.specs.Gathering.{StandsFor}
use Rattle.mr_exec.proofs.Behind.{limited-alike}
use Rattle.mr_exec.proofs.Replying.{reply-total}
use Rattle.mr_exec.proofs.selecting.listed.Goals as goal

pub returns-clause-reply : goal.returns-clause-reply
returns-clause-reply g c = λ t.
    let kept = filter (keeps (g.S.Fields.def c.args.source.now) c.args.select.now.condition) (g.S.RowSource.rows c.args.source.now) in
    c.in_ok-table.ensures
    ∙ ap (map (listed c.args.places.now))
    (limited-alike (reply_by c.args.def.now c.args.select.now.order) (reply-total c.args.def.now c.args.select.now.order) c.args.select.now.skip c.args.select.now.most c.reach_of-reach.result c.in_ok-rows.rows.items kept c.reach_of-reach.ensures
    (subst (λ (o : List BoundOrder). StandsFor (reply_by c.args.def.now o) c.reach_of-reach.result c.in_ok-rows.rows.items kept) c.as_slice-order.ensures (c.in_ok-rows.ensures.kept t)))
