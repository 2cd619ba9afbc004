use Rattle.mr_flush.specs.Adding.{Adds}
use Rattle.mr_flush.proofs.Steps.{memory_cursor}
use Rattle.mr_flush.proofs.writing.add_all.Given as goal

abbrev pub invariant-adding : goal.invariant-adding
invariant-adding g l = Adds (memory_cursor l.fn.cursor) (memory_cursor l.cursor) l.fn.writer l.writer (g.D.Disk.disk l.fn.disk) (g.D.Disk.disk l.disk)

abbrev pub decreases-adding : goal.decreases-adding
decreases-adding g l = (memory_cursor l.cursor).steps
