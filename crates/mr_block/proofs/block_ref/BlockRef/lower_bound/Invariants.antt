use Rattle.std.proofs.Common.{◌≡◌, ◌<◌, ◌≤◌, ◌-◌, true, false, length, get_or}
use Rattle.std.specs.Ordering.{is_lt}
use Rattle.mr_iter.specs.Versions.{key_cmp}
use Rattle.mr_block.specs.Block.{no_version}
use Rattle.mr_block.proofs.block_ref.BlockRef.lower_bound.Given as goal

abbrev pub invariant-halving : goal.invariant-halving
invariant-halving l = record {
  order : l.low ≤ l.high;
  within : l.high ≤ length l.self;
  before : 0 < l.low → is_lt (key_cmp l.direction (get_or l.self (l.low - 1) no_version).key l.key) ≡ true;
  behind : l.high < length l.self → is_lt (key_cmp l.direction (get_or l.self l.high no_version).key l.key) ≡ false;
}

abbrev pub decreases-halving : goal.decreases-halving
decreases-halving l = l.high - l.low
