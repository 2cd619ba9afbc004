use Rattle.std.proofs.Common.{◌≡◌, ◌<◌, ℕ, [], false, length, get_or, subst, arith}
use Rattle.mr_chain.specs.Chains.{comes_before}
use Rattle.mr_chain.proofs.Searching.{counted}
use Rattle.mr_chain.proofs.chain.child_of.Goals as goal

pub returns : goal.returns
returns c =
    let same : c.halving.high ≡ c.halving.low = omega (arith, c.halving.invariant.order, c.halving-test.false) in
    counted c.args.direction c.args.key.now c.args.lasts.now c.halving.low c.requires
    (omega (arith, c.halving.invariant.order, c.halving.invariant.within)) c.halving.invariant.before
    (λ lt. subst (λ (n : ℕ). n < length c.args.lasts.now → comes_before c.args.direction c.args.key.now (get_or c.args.lasts.now n []) ≡ false) same c.halving.invariant.behind lt)
