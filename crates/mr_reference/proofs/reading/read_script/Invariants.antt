use Rattle.std.proofs.Common.{◌≡◌, ◌≤◌, ◌++◌, ◌+◌, ◌-◌, ◌^◌, IsTrue, length}
use Rattle.mr_reference.proofs.reading.read_script.Given as goal

abbrev pub invariant-loop-buffer : goal.invariant-loop-buffer
invariant-loop-buffer g l = record {
  tells : (g.S.Source.source l.source).tells ≡ (g.S.Source.source l.initial.source).tells;
  faults : (g.S.Source.source l.initial.source).faults ≤ (g.S.Source.source l.source).faults;
  so_far : IsTrue (g.S.Source.source l.initial.source).tells → (g.S.Source.source l.initial.source).left ≡ l.script.items ++ (g.S.Source.source l.source).left;
}

abbrev pub decreases-loop-buffer : goal.decreases-loop-buffer
decreases-loop-buffer g l = 2 ^ 30 + 1 - length l.script.items
