use Rattle.std.proofs.Common.{◌≡◌, ◌<◌, ◌≤◌, ◌-◌, true, false, length, get_or, map}
use Rattle.mr_run_open.specs.Given.{indexed_of}
use Rattle.mr_run_open.specs.Runs.{is_before, no_block}
use Rattle.mr_run_open.proofs.search.count_before.Given as goal

abbrev pub invariant-halving : goal.invariant-halving
invariant-halving l = record {
  order : l.low ≤ l.high;
  within : l.high ≤ length l.blocks;
  before : 0 < l.low → is_before l.direction l.key (get_or (map indexed_of l.blocks) (l.low - 1) no_block) ≡ true;
  behind : l.high < length l.blocks → is_before l.direction l.key (get_or (map indexed_of l.blocks) l.high no_block) ≡ false;
}

abbrev pub decreases-halving : goal.decreases-halving
decreases-halving l = l.high - l.low
