use Rattle.std.proofs.Common.{take, ℕ, IsTrue, None}
use Rattle.std.specs.List.{AllByRecursion}
use Rattle.mr_base.specs.Disk.{Tells, Image, seen}
use Rattle.mr_base.specs.Calls.{Same, Counts, Reads}
use Rattle.mr_iter.specs.Children.{AnyOf, total, KeepsChild, FoundChild}
use Rattle.mr_iter.proofs.Steps.{DoneTo}
use Rattle.mr_iter.proofs.children.seek_all.Given as goal

abbrev pub invariant-loop-place : goal.invariant-loop-place
invariant-loop-place g l = record {
  done : DoneTo (λ x y. KeepsChild g.C.Listed.cursor g.C.Listed.whole (seen (g.D.Disk.disk l.initial.disk)) (Tells (g.D.Disk.disk l.initial.disk)) x y
      × FoundChild g.C.Listed.cursor g.C.Listed.whole g.C.Listed.steady (seen (g.D.Disk.disk l.initial.disk)) (Tells (g.D.Disk.disk l.initial.disk)) l.key x y) l.place l.initial.children.items l.children.items;
  counts : Counts (total (λ c. (g.C.Listed.cursor c).reads) (take l.place l.children.items)) (total (λ c. (g.C.Listed.cursor c).asked) (take l.place l.children.items)) 0 (g.D.Disk.disk l.initial.disk) (g.D.Disk.disk l.disk);
  same : Tells (g.D.Disk.disk l.initial.disk) → Same (g.D.Disk.disk l.initial.disk) (g.D.Disk.disk l.disk);
  offends : (image : Image) (file at : ℕ) → AnyOf (λ c. g.C.Listed.offends c image file at) l.children.items → AnyOf (λ c. g.C.Listed.offends c image file at) l.initial.children.items;
  spent : Tells (g.D.Disk.disk l.initial.disk) → AllByRecursion (λ c. g.C.Listed.whole c (seen (g.D.Disk.disk l.initial.disk))) l.initial.children.items → AllByRecursion (λ c. IsTrue ((g.C.Listed.cursor c).distinct (seen (g.D.Disk.disk l.initial.disk)))) l.initial.children.items →
      Reads (total (λ c. (g.C.Listed.cursor c).reads_to (seen (g.D.Disk.disk l.initial.disk)) l.key None) (take l.place l.initial.children.items)) (total (λ c. (g.C.Listed.cursor c).asked_to (seen (g.D.Disk.disk l.initial.disk)) l.key None) (take l.place l.initial.children.items)) (g.D.Disk.disk l.initial.disk) (g.D.Disk.disk l.disk);
}
