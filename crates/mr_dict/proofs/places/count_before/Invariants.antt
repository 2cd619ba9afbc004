use Rattle.std.proofs.Common.{◌≡◌, ◌<◌, ◌≤◌, ◌-◌, true, false, length, get_or}
use Rattle.mr_dict_entry.specs.Entries.{kinded_key}
use Rattle.mr_dict.specs.Dictionary.{is_before}
use Rattle.mr_dict.specs.Given.{no_entry}
use Rattle.mr_dict.proofs.places.count_before.Given as goal

abbrev pub invariant-halving : goal.invariant-halving
invariant-halving l = record {
  order : l.low ≤ l.high;
  within : l.high ≤ length l.entries;
  before : 0 < l.low → is_before (kinded_key l.kind l.rest) (get_or l.entries (l.low - 1) no_entry) ≡ true;
  behind : l.high < length l.entries → is_before (kinded_key l.kind l.rest) (get_or l.entries l.high no_entry) ≡ false;
}

abbrev pub decreases-halving : goal.decreases-halving
decreases-halving l = l.high - l.low
