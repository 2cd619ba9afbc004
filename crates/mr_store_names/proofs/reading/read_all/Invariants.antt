use Rattle.mr_store_names.proofs.Walking.{Reading}
use Rattle.mr_store_names.proofs.reading.read_all.Given as goal

abbrev pub invariant-reading : goal.invariant-reading
invariant-reading g l = Reading g.C.Listed.cursor g.C.Listed.whole g.C.Listed.steady g.C.Listed.offends (g.D.Disk.disk l.fn.disk) l.fn.cursor (g.D.Disk.disk l.disk) l.cursor l.names.items

abbrev pub decreases-reading : goal.decreases-reading
decreases-reading g l = (g.C.Listed.cursor l.cursor).steps
