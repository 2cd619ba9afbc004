use Rattle.std.proofs.Common.{◌≡◌, drop, true}
use Rattle.mr_run_judge.specs.Meeting.{is_listed, runs_of_ends}
use Rattle.mr_run_judge.proofs.listing.place_of.Given as goal

abbrev pub invariant-finding : goal.invariant-finding
invariant-finding l = is_listed l.run (runs_of_ends (drop l.i l.opened)) ≡ true
