use Rattle.mr_iter.proofs.Walking.{Goes}
use Rattle.mr_iter.proofs.walk.walk_to.Given as goal

abbrev pub invariant-walking : goal.invariant-walking
invariant-walking g l = Goes l.direction l.key (g.C.Listed.offends l.fn.cursor) (g.C.Listed.offends l.cursor) (g.C.Listed.whole l.fn.cursor) (g.C.Listed.whole l.cursor) (g.C.Listed.steady l.fn.cursor) (g.C.Listed.steady l.cursor) (g.C.Listed.cursor l.fn.cursor) (g.C.Listed.cursor l.cursor) (g.D.Disk.disk l.fn.disk) (g.D.Disk.disk l.disk)

abbrev pub decreases-walking : goal.decreases-walking
decreases-walking g l = (g.C.Listed.cursor l.cursor).steps
