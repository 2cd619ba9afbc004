use Rattle.std.proofs.Common.{◌≡◌, ◌≤◌, List, ℕ, IsTrue}
use Rattle.mr_base.specs.Disk.{Tells, Image, seen}
use Rattle.mr_base.specs.Calls.{Same}
use Rattle.mr_iter.specs.Cursors.{left, SameList, CountsStep}
use Rattle.mr_iter.specs.Snapshots.{shown, skip_of}
use Rattle.mr_iter.proofs.snapshot.settle.Given as goal

abbrev pub invariant-settling : goal.invariant-settling
invariant-settling g l = record {
  list : SameList (g.C.Listed.cursor l.initial.inner) (g.C.Listed.cursor l.inner);
  counts : CountsStep (g.C.Listed.cursor l.initial.inner) (g.C.Listed.cursor l.inner) (g.D.Disk.disk l.initial.disk) (g.D.Disk.disk l.disk);
  same : Tells (g.D.Disk.disk l.initial.disk) → Same (g.D.Disk.disk l.initial.disk) (g.D.Disk.disk l.disk);
  stays : Tells (g.D.Disk.disk l.initial.disk) → g.C.Listed.whole l.initial.inner (seen (g.D.Disk.disk l.initial.disk)) → g.C.Listed.whole l.inner (seen (g.D.Disk.disk l.initial.disk));
  offends : (image : Image) (file at : ℕ) → g.C.Listed.offends l.inner image file at → g.C.Listed.offends l.initial.inner image file at;
  sought : (k : List ℕ) → IsTrue ((g.C.Listed.cursor l.initial.inner).sought k) → IsTrue ((g.C.Listed.cursor l.inner).sought k);
  stands : Tells (g.D.Disk.disk l.initial.disk) → g.C.Listed.whole l.initial.inner (seen (g.D.Disk.disk l.initial.disk)) → g.C.Listed.steady l.initial.inner (seen (g.D.Disk.disk l.initial.disk)) → g.C.Listed.steady l.inner (seen (g.D.Disk.disk l.initial.disk));
  steps : (g.C.Listed.cursor l.inner).steps ≤ (g.C.Listed.cursor l.initial.inner).steps;
  so_far : Tells (g.D.Disk.disk l.initial.disk) → g.C.Listed.whole l.initial.inner (seen (g.D.Disk.disk l.initial.disk)) →
      shown l.number (skip_of l.initial.skip) (left (g.C.Listed.cursor l.initial.inner) (seen (g.D.Disk.disk l.initial.disk))) ≡ shown l.number (skip_of l.skip) (left (g.C.Listed.cursor l.inner) (seen (g.D.Disk.disk l.initial.disk)));
}

abbrev pub decreases-settling : goal.decreases-settling
decreases-settling g l = (g.C.Listed.cursor l.inner).steps
