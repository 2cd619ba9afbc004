use Rattle.mr_compact.specs.Writing.{passed_key}
use Rattle.mr_compact.proofs.Carrying.{Merging}
use Rattle.mr_compact.proofs.merging.merge_runs.Given as goal

abbrev pub invariant-merging : goal.invariant-merging
invariant-merging g l = Merging g.C.Listed.cursor g.C.Listed.whole g.C.Listed.steady g.C.Listed.offends g.W.RunOut.run l.first_file l.oldest l.bottom (g.F.Filter.keeps l.filter) (g.W.RunOut.stands l.out) (g.D.Disk.disk l.fn.disk) (g.D.Disk.disk l.disk) l.fn.cursor l.cursor (g.W.RunOut.out l.out) l.written (passed_key l.skip)

abbrev pub decreases-merging : goal.decreases-merging
decreases-merging g l = (g.C.Listed.cursor l.cursor).steps
