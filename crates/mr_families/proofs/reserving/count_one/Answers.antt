use Rattle.std.proofs.Common.{◌+◌, ◌∙◌, ap}
use Rattle.mr_families.proofs.Needing.{counted, not_counted}
use Rattle.mr_families.proofs.reserving.count_one.Goals as goal

pub returns-in_default-clause-counted : goal.returns-in_default-clause-counted
returns-in_default-clause-counted c = λ os are. not_counted c.args.list.now os c.args.operation.now c.args.needs.now.items c.in_default.field-0 c.in_default.ensures.absent are

pub returns-clause-counted : goal.returns-clause-counted
returns-clause-counted c = λ os are.
    counted c.args.list.now os c.args.operation.now c.args.needs.now.items c.in-Ok.place c.index.result.now c.in_ok-needs.field-0 c.requires.ascending c.in-Ok.ensures.found c.requires.as_many c.index.ensures c.in_ok-needs.ensures.entries (c.in_ok-needs.ensures.bytes ∙ ap (λ n. c.index.result.now.bytes + n) c.in_ok-size.ensures) are
