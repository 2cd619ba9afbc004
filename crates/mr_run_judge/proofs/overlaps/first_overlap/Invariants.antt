use Rattle.std.proofs.Common.{◌≡◌, [], take, drop}
use Rattle.mr_run_judge.specs.Meeting.{first_meeting}
use Rattle.mr_run_judge.proofs.overlaps.first_overlap.Given as goal

abbrev pub invariant-searching : goal.invariant-searching
invariant-searching l = first_meeting [] l.fn.ends ≡ first_meeting (take l.i l.ends) (drop l.i l.ends)
