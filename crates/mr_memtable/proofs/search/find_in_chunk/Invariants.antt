use Rattle.std.proofs.Common.{◌≡◌, ◌<◌, ◌≤◌, ◌-◌, true, false, None, length, get_or}
use Rattle.mr_iter.specs.Versions.{as_version}
use Rattle.mr_memtable.specs.Slots.{goes_before, no_slot}
use Rattle.mr_memtable.proofs.search.find_in_chunk.Given as goal

abbrev pub invariant-halving : goal.invariant-halving
invariant-halving l = record {
  order : l.low ≤ l.high;
  within : l.high ≤ length l.chunk.slots.items;
  before : 0 < l.low → goes_before l.direction l.pieces (as_version l.key l.sequence None) (get_or l.chunk.slots.items (l.low - 1) no_slot) ≡ true;
  behind : l.high < length l.chunk.slots.items → goes_before l.direction l.pieces (as_version l.key l.sequence None) (get_or l.chunk.slots.items l.high no_slot) ≡ false;
}

abbrev pub decreases-halving : goal.decreases-halving
decreases-halving l = l.high - l.low
