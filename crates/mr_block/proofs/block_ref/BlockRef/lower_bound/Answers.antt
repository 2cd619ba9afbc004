use Rattle.std.proofs.Common.{◌≡◌, ◌<◌, ℕ, false, length, get_or, subst, arith}
use Rattle.std.specs.Ordering.{is_lt}
use Rattle.mr_iter.specs.Versions.{key_cmp}
use Rattle.mr_block.specs.Block.{no_version}
use Rattle.mr_block.proofs.Places.{found_at}
use Rattle.mr_block.proofs.block_ref.BlockRef.lower_bound.Goals as goal

pub returns-clause-found : goal.returns-clause-found
returns-clause-found c = λ ordered.
    let same : c.halving.high ≡ c.halving.low = omega (arith, c.halving.invariant.order, c.halving-test.false) in
    found_at c.args.direction c.args.key.now c.args.self.now c.halving.low ordered (record {
      within = omega (arith, c.halving.invariant.order, c.halving.invariant.within);
      before = c.halving.invariant.before;
      behind = subst (λ (n : ℕ). n < length c.args.self.now → is_lt (key_cmp c.args.direction (get_or c.args.self.now n no_version).key c.args.key.now) ≡ false) same c.halving.invariant.behind;
    })
