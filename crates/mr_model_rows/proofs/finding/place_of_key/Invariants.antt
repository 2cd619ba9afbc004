use Rattle.std.proofs.Common.{◌≡◌, ◌<◌, ◌≤◌, ◌-◌, true, false, length, get_or}
use Rattle.std.specs.Ordering.{is_gt}
use Rattle.mr_spec.specs.Rows.{primary_cmp}
use Rattle.mr_model_rows.proofs.finding.place_of_key.Given as goal

abbrev pub invariant-halving : goal.invariant-halving
invariant-halving l = record {
  order : l.low ≤ l.high;
  within : l.high ≤ length l.rows;
  before : 0 < l.low → is_gt (primary_cmp l.def l.key (get_or l.rows (l.low - 1) l.key)) ≡ true;
  behind : l.high < length l.rows → is_gt (primary_cmp l.def l.key (get_or l.rows l.high l.key)) ≡ false;
}

abbrev pub decreases-halving : goal.decreases-halving
decreases-halving l = l.high - l.low
