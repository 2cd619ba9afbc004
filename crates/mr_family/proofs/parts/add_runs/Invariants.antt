use Rattle.std.proofs.Common.{take}
use Rattle.mr_iter.specs.OneOf.{one, Holds}
use Rattle.mr_run_cursor.specs.Pinned.{pinned_at, IsWhole, IsRunOffence}
use Rattle.mr_family.proofs.Gathering.{Gathers}
use Rattle.mr_family.proofs.parts.add_runs.Given as goal

abbrev pub invariant-gathering : goal.invariant-gathering
invariant-gathering g l = Gathers (λ p. one g.A.Listed.cursor (λ q. one (λ c. pinned_at c.run.now c.start c.end c.at c.block) g.B.Listed.cursor q) p)
    (λ p image. Holds (λ a. g.A.Listed.whole a image) (λ q. Holds (λ c. IsWhole c.run.now c.end c.block image) (λ b. g.B.Listed.whole b image) q) p)
    (λ p image file at. Holds (λ a. g.A.Listed.offends a image file at) (λ q. Holds (λ c. IsRunOffence c.run.now image file at) (λ b. g.B.Listed.offends b image file at) q) p) l.fn.parts.items l.parts.items (take l.i l.runs)
