use Rattle.std.proofs.Common.{◌≡◌, ◌<◌, ℕ, false, length, get_or, subst, arith}
use Rattle.mr_levels.specs.Levels.{no_run}
use Rattle.mr_levels.specs.Looks.{ends_before}
use Rattle.mr_levels.proofs.Searching.{counted}
use Rattle.mr_levels.proofs.placing.count_before.Goals as goal

pub returns-clause-count : goal.returns-clause-count
returns-clause-count c =
    let rs = c.args.runs.now in
    let same : c.halving.high ≡ c.halving.low = omega (arith, c.halving.invariant.order, c.halving-test.false) in
    counted c.args.direction c.args.key.now rs c.halving.low c.requires (omega (arith, c.halving.invariant.order, c.halving.invariant.within)) c.halving.invariant.before
    (λ lt. subst (λ (n : ℕ). n < length c.args.runs.now → ends_before c.args.direction c.args.key.now (get_or c.args.runs.now n no_run) ≡ false) same c.halving.invariant.behind lt)
