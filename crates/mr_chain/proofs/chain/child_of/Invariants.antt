use Rattle.std.proofs.Common.{◌≡◌, ◌<◌, ◌≤◌, ◌-◌, true, false, [], length, get_or}
use Rattle.mr_chain.specs.Chains.{comes_before}
use Rattle.mr_chain.proofs.chain.child_of.Given as goal

abbrev pub invariant-halving : goal.invariant-halving
invariant-halving l = record {
  order : l.low ≤ l.high;
  within : l.high ≤ length l.lasts;
  before : 0 < l.low → comes_before l.direction l.key (get_or l.lasts (l.low - 1) []) ≡ true;
  behind : l.high < length l.lasts → comes_before l.direction l.key (get_or l.lasts l.high []) ≡ false;
}

abbrev pub decreases-halving : goal.decreases-halving
decreases-halving l = l.high - l.low
