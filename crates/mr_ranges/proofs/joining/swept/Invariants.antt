use Rattle.std.proofs.Common.{length}
use Rattle.mr_ranges.proofs.Sweeping.{IsJoined}
use Rattle.mr_ranges.proofs.joining.swept.Given as goal

abbrev pub invariant-sweeping : goal.invariant-sweeping
invariant-sweeping l = IsJoined l.ranges l.left l.out l.low l.high

abbrev pub decreases-sweeping : goal.decreases-sweeping
decreases-sweeping l = length l.left
