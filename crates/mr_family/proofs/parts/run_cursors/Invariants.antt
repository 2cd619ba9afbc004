use Rattle.std.proofs.Common.{[], take}
use Rattle.mr_run_cursor.specs.Pinned.{pinned_at, IsWhole, IsRunOffence}
use Rattle.mr_family.proofs.Gathering.{Gathers}
use Rattle.mr_family.proofs.parts.run_cursors.Given as goal

abbrev pub invariant-gathering : goal.invariant-gathering
invariant-gathering l = Gathers (λ c. pinned_at c.run.now c.start c.end c.at c.block) (λ c image. IsWhole c.run.now c.end c.block image) (λ c image file at. IsRunOffence c.run.now image file at) [] l.cursors.items (take l.i l.runs)
