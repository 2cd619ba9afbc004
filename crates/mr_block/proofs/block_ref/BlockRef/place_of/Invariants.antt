use Rattle.std.proofs.Common.{◌≡◌, ◌<◌, ◌≤◌, ◌-◌, true, false, None, length, get_or}
use Rattle.std.specs.Ordering.{is_gt}
use Rattle.mr_iter.specs.Versions.{as_version, version_cmp}
use Rattle.mr_block.specs.Block.{no_version}
use Rattle.mr_block.proofs.block_ref.BlockRef.place_of.Given as goal

abbrev pub invariant-halving : goal.invariant-halving
invariant-halving l = record {
  order : l.low ≤ l.high;
  within : l.high ≤ length l.self;
  before : 0 < l.low → is_gt (version_cmp l.direction (as_version l.key l.number None) (get_or l.self (l.low - 1) no_version)) ≡ true;
  behind : l.high < length l.self → is_gt (version_cmp l.direction (as_version l.key l.number None) (get_or l.self l.high no_version)) ≡ false;
}

abbrev pub decreases-halving : goal.decreases-halving
decreases-halving l = l.high - l.low
