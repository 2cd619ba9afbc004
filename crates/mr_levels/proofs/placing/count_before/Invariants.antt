use Rattle.std.proofs.Common.{◌≡◌, ◌<◌, ◌≤◌, ◌-◌, true, false, length, get_or}
use Rattle.mr_levels.specs.Levels.{no_run}
use Rattle.mr_levels.specs.Looks.{ends_before}
use Rattle.mr_levels.proofs.placing.count_before.Given as goal

abbrev pub invariant-halving : goal.invariant-halving
invariant-halving l = record {
  order : l.low ≤ l.high;
  within : l.high ≤ length l.runs;
  before : 0 < l.low → ends_before l.direction l.key (get_or l.runs (l.low - 1) no_run) ≡ true;
  behind : l.high < length l.runs → ends_before l.direction l.key (get_or l.runs l.high no_run) ≡ false;
}

abbrev pub decreases-halving : goal.decreases-halving
decreases-halving l = l.high - l.low
