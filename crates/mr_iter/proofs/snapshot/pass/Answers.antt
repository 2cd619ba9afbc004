use Rattle.mr_base.specs.Disk.{seen}
use Rattle.mr_iter.proofs.Spent.{within_end}
use Rattle.mr_iter.proofs.snapshot.pass.Goals as goal

pub returns-in-Err-extend_from_slice-clause-spent : goal.returns-in-Err-extend_from_slice-clause-spent
returns-in-Err-extend_from_slice-clause-spent g c = λ k told is stands one key.
    within_end g.C.Listed.cursor g.C.Listed.whole g.C.Listed.steady g.met.C.Listed.costs g.met.C.Listed.to_end c.args.inner.now (seen (g.D.Disk.disk c.args.disk.now)) k is stands one key
