use Rattle.std.proofs.Common.{length, ◌-◌, ◌≤◌}
use Rattle.mr_trials.proofs.damage.walked.Given as goal

abbrev pub invariant-loop-at : goal.invariant-loop-at
invariant-loop-at l = l.records ≤ l.at

abbrev pub decreases-loop-at : goal.decreases-loop-at
decreases-loop-at l = length l.bytes - l.at
