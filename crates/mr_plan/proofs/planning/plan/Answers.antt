use Rattle.std.proofs.Common.{sym, ◌∙◌, ap, ℕ, List, []}
use Rattle.std.specs.Option.{option_copied}
use Rattle.mr_entry.specs.Entry.{entry_places}
use Rattle.mr_plan.specs.Keys.{index_says}
use Rattle.mr_plan.proofs.Holding.{lies-held, true-held}
use Rattle.mr_plan.proofs.planning.plan.Goals as goal

pub returns-clause-includes : goal.returns-clause-includes
returns-clause-includes c = λ row is keeps.
    lies-held c.args.def.now (option_copied c.args.expr) (entry_places c.args.def.now c.in_ok-index.index) c.as_slice.result.now c.in_ok-places.places c.in_ok-ranges.ranges row c.as_slice.ensures c.in_ok-places.ensures c.in_ok-ranges.ensures.same is
    ∙ true-held c.args.def.now (option_copied c.args.expr) (entry_places c.args.def.now c.in_ok-index.index) row is keeps (entry_places c.args.def.now c.in_ok-index.index)

pub returns-clause-tight : goal.returns-clause-tight
returns-clause-tight c = λ row is lies.
    sym (lies-held c.args.def.now (option_copied c.args.expr) (entry_places c.args.def.now c.in_ok-index.index) c.as_slice.result.now c.in_ok-places.places c.in_ok-ranges.ranges row c.as_slice.ensures c.in_ok-places.ensures c.in_ok-ranges.ensures.same is) ∙ lies

pub returns-clause-exact : goal.returns-clause-exact
returns-clause-exact c = λ key.
    c.in_ok-ranges.ensures.same key ∙ ap (λ (places : List ℕ). index_says c.args.def.now (option_copied c.args.expr) [] places key) (c.as_slice.ensures ∙ c.in_ok-places.ensures)
