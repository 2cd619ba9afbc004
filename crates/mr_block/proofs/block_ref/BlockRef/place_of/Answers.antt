use Rattle.std.proofs.Common.{◌≡◌, ◌<◌, ℕ, None, false, length, get_or, subst, arith}
use Rattle.std.specs.Ordering.{is_gt}
use Rattle.mr_iter.specs.Versions.{as_version, version_cmp}
use Rattle.mr_block.specs.Block.{no_version}
use Rattle.mr_block.proofs.Newest.{place_by}
use Rattle.mr_block.proofs.block_ref.BlockRef.place_of.Goals as goal

pub returns-clause-place : goal.returns-clause-place
returns-clause-place c =
    let same : c.halving.high ≡ c.halving.low = omega (arith, c.halving.invariant.order, c.halving-test.false) in
    place_by c.args.direction c.args.number c.args.key.now c.args.self.now c.halving.low (omega (arith, c.halving.invariant.order, c.halving.invariant.within)) c.halving.invariant.before
    (subst (λ (n : ℕ). n < length c.args.self.now → is_gt (version_cmp c.args.direction (as_version c.args.key.now c.args.number None) (get_or c.args.self.now n no_version)) ≡ false) same c.halving.invariant.behind)
