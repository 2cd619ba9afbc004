use Rattle.std.proofs.Common.{◌≡◌, ◌<◌, ℕ, false, length, get_or, map, subst, arith}
use Rattle.std.proofs.lemmas.List.{length-map}
use Rattle.mr_run_open.specs.Given.{indexed_of}
use Rattle.mr_run_open.specs.Runs.{is_before, no_block}
use Rattle.mr_run_open.proofs.Searching.{counted, before_down}
use Rattle.mr_run_open.proofs.search.count_before.Goals as goal

pub returns-clause-found : goal.returns-clause-found
returns-clause-found c = λ order.
    let bs = map indexed_of c.args.blocks.now in
    let long : length (map indexed_of c.args.blocks.now) ≡ length c.args.blocks.now = length-map c.args.blocks.now indexed_of in
    let same : c.halving.high ≡ c.halving.low = omega (arith, c.halving.invariant.order, c.halving-test.false) in
    counted c.args.direction (is_before c.args.direction c.args.key.now) bs c.halving.low (before_down c.args.direction c.args.key.now) order
    (omega (arith, long, c.halving.invariant.order, c.halving.invariant.within)) c.halving.invariant.before
    (λ lt. subst (λ (n : ℕ). n < length c.args.blocks.now → is_before c.args.direction c.args.key.now (get_or (map indexed_of c.args.blocks.now) n no_block) ≡ false) same c.halving.invariant.behind (omega (arith, long, lt)))
