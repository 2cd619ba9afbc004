use Rattle.mr_iter.proofs.Seeking.{Looks}
use Rattle.mr_iter.proofs.finding.seek_newest.Given as goal

abbrev pub invariant-looking : goal.invariant-looking
invariant-looking g l = Looks g.C.Listed.cursor g.C.Listed.whole g.C.Listed.steady g.C.Listed.offends l.number l.key (g.D.Disk.disk l.fn.disk) (g.D.Disk.disk l.disk) l.fn.cursor l.cursor

abbrev pub decreases-looking : goal.decreases-looking
decreases-looking g l = (g.C.Listed.cursor l.cursor).steps
