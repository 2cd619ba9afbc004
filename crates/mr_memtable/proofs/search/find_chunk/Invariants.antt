use Rattle.std.proofs.Common.{◌≡◌, ◌<◌, ◌≤◌, ◌-◌, true, false, None, length}
use Rattle.mr_iter.specs.Versions.{as_version}
use Rattle.mr_memtable.specs.Slots.{goes_before}
use Rattle.mr_memtable.specs.Chunks.{first_slot}
use Rattle.mr_memtable.proofs.search.find_chunk.Given as goal

abbrev pub invariant-halving : goal.invariant-halving
invariant-halving l = record {
  order : l.low ≤ l.high;
  within : l.high ≤ length l.chunks;
  before : 0 < l.low → goes_before l.direction l.pieces (as_version l.key l.sequence None) (first_slot l.chunks (l.low - 1)) ≡ true;
  behind : l.high < length l.chunks → goes_before l.direction l.pieces (as_version l.key l.sequence None) (first_slot l.chunks l.high) ≡ false;
}

abbrev pub decreases-halving : goal.decreases-halving
decreases-halving l = l.high - l.low
