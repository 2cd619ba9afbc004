use Rattle.std.proofs.Common.{◌+◌, length}
use Rattle.mr_ranges.proofs.Crossing.{IsMet}
use Rattle.mr_ranges.proofs.meeting.meet.Given as goal

abbrev pub invariant-meeting : goal.invariant-meeting
invariant-meeting l = IsMet l.first l.second l.left l.right l.out

abbrev pub decreases-meeting : goal.decreases-meeting
decreases-meeting l = length l.left + length l.right
