use Rattle.std.proofs.Common.{◌∙◌, ap, filter, map, ◌∷◌, []}
use Rattle.mr_bound.specs.BoundSelects.{keeps}
use Rattle.mr_exec.specs.Gathering.{value_found}
use Rattle.mr_exec.proofs.Finding.{values-found}
use Rattle.mr_exec.proofs.selecting.aggregated.Goals as goal

pub returns-clause-reply : goal.returns-clause-reply
returns-clause-reply g c = λ told.
    c.in_ok-table.ensures
    ∙ ap (λ l. map value_found l ∷ []) (c.as_slice.ensures.value ∙ c.in_ok-all.ensures.found told)
    ∙ ap (λ vs. vs ∷ []) (values-found c.args.def.now (filter (keeps (g.S.Fields.def c.args.source.now) c.args.condition.now) (g.S.RowSource.rows c.args.source.now)) c.args.aggregates.now)
