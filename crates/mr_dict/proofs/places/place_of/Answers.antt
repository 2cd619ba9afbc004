use Rattle.std.proofs.Common.{◌∙◌, sym, arith}
use Rattle.mr_dict_entry.specs.Entries.{kinded_key}
use Rattle.mr_dict.proofs.Orders.{found, missed}
use Rattle.mr_dict.proofs.places.place_of.Goals as goal

pub returns-then-is_at : goal.returns-then-is_at
returns-then-is_at c = λ order. found (kinded_key c.args.kind c.args.rest.now) c.args.entries.now c.count_before-at.result order (c.count_before-at.ensures.found order) c.if-at-entries.true (sym c.is_at.ensures ∙ c.if-is_at.true)

pub returns-else-is_at : goal.returns-else-is_at
returns-else-is_at c = λ order. missed (kinded_key c.args.kind c.args.rest.now) c.args.entries.now c.count_before-at.result order (c.count_before-at.ensures.found order) (λ lt. sym c.is_at.ensures ∙ c.if-is_at.false)

pub returns-else-at-entries : goal.returns-else-at-entries
returns-else-at-entries c = λ order. missed (kinded_key c.args.kind c.args.rest.now) c.args.entries.now c.count_before-at.result order (c.count_before-at.ensures.found order) (λ lt. absurd (omega (arith, lt, c.if-at-entries.false)))
