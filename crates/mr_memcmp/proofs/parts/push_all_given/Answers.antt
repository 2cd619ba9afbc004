use Rattle.std.proofs.Common.{◌++◌, ◌∙◌, sym, ap, append-nil, arith}
use Rattle.mr_memcmp.proofs.GivenSteps.{given_fits, given_end}
use Rattle.mr_memcmp.proofs.parts.push_all_given.Goals as goal

pub push_given-requires : goal.push_given-requires
push_given-requires c = given_fits c.args.columns.now c.args.places.now c.args.values.now c.loop-i.i c.index-values-i.result c.requires (omega arith) (omega arith) c.index-values-i.is

pub returns : goal.returns
returns c =
    let none = given_end c.args.columns.now c.args.places.now c.args.values.now c.loop-i.i (λ p q. absurd (omega arith)) in
    sym (ap (λ l. c.loop-i.out.items ++ l) none ∙ append-nil c.loop-i.out.items) ∙ c.loop-i.invariant
