use Rattle.std.proofs.Common.{◌≡◌, drop}
use Rattle.mr_run_judge.specs.Meeting.{meets_one}
use Rattle.mr_run_judge.proofs.overlaps.meets_one.Given as goal

abbrev pub invariant-meeting : goal.invariant-meeting
invariant-meeting l = meets_one l.one l.fn.others ≡ meets_one l.one (drop l.i l.others)
