use Rattle.std.proofs.Common.{◌≡◌, map, take, drop, true}
use Rattle.std.specs.List.{AllByRecursion}
use Rattle.mr_base.specs.Disk.{Image}
use Rattle.mr_manifest.specs.declared.live.LiveRun.{LiveRun}
use Rattle.mr_run_judge.specs.declared.ends.Ends.{Ends}
use Rattle.mr_run_judge.specs.Judged.{HasEnds}
use Rattle.mr_run_judge.specs.Meeting.{is_listed, runs_of_ends}
use Rattle.mr_run_judge.proofs.listing.in_list_order.Given as goal

abbrev pub invariant-listing : goal.invariant-listing
invariant-listing l = record {
  runs : map (λ (e : Ends). e.run) l.out.items ≡ take l.i l.runs;
  listed : AllByRecursion (λ (r : LiveRun). is_listed r (runs_of_ends l.opened) ≡ true) (drop l.i l.runs);
  ends : (image : Image) → AllByRecursion (HasEnds image) l.opened → AllByRecursion (HasEnds image) l.out.items;
}
