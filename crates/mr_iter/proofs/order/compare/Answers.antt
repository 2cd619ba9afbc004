use Rattle.std.proofs.Common.{◌∙◌, sym, arith}
use Rattle.mr_iter.proofs.FirstDifference.{at_difference, no_difference}
use Rattle.mr_iter.proofs.order.compare.Goals as goal

pub returns-then-at-b : goal.returns-then-at-b
returns-then-at-b c =
    c.cmp.ensures ∙ sym (at_difference c.args.a.now c.args.b.now c.first_difference-at.result c.first_difference-at.ensures (omega arith) (omega arith))

pub returns : goal.returns
returns c =
    c.cmp-2.ensures ∙ sym (no_difference c.args.a.now c.args.b.now c.first_difference-at.result c.first_difference-at.ensures (λ p q. omega (arith, c.else-at-a.either)))
