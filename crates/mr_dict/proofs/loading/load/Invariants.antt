use Rattle.mr_dict.specs.Given.{passed_key}
use Rattle.mr_dict.proofs.Carrying.{Loading}
use Rattle.mr_dict.proofs.loading.load.Given as goal

abbrev pub invariant-loading : goal.invariant-loading
invariant-loading g l = Loading g.C.Listed.cursor g.C.Listed.whole g.C.Listed.steady g.C.Listed.offends (g.D.Disk.disk l.fn.disk) l.fn.cursor (g.D.Disk.disk l.disk) l.cursor (passed_key l.passed) l.dict

abbrev pub decreases-loading : goal.decreases-loading
decreases-loading g l = (g.C.Listed.cursor l.cursor).steps
