use Rattle.std.proofs.Common.{true}
use Rattle.mr_iter.specs.Versions.{Version}
use Rattle.mr_store_names.specs.Named.{Adds}
use Rattle.mr_store_names.proofs.Walking.{stands_on, passes_any, in_some, reading_next, goes_over}
use Rattle.mr_store_names.proofs.reading.read_all.Goals as goal

pub reading-preserved : goal.reading-preserved
reading-preserved g c =
    let here = stands_on (g.C.Listed.cursor c.reading.cursor).current c.at_end.result c.at_end.ensures c.reading-test.true in
    reading_next g.C.Listed.cursor g.C.Listed.whole g.C.Listed.steady g.C.Listed.offends (g.D.Disk.disk c.args.disk.now) c.args.cursor.now (g.D.Disk.disk c.reading.disk) c.reading.cursor c.reading.names.items c.reading.invariant
    here.0 here.1 c.take_version.new.names.items
    (in_some (λ v. Adds v c.reading.names.items c.take_version.new.names.items) (g.C.Listed.cursor c.reading.cursor).current here.0 here.1 c.in-Ok.ensures.taken)
    (g.D.Disk.disk c.step.new.disk) c.step.new.cursor (c.step.ensures.walk (λ (v : Version). true) (passes_any (g.C.Listed.cursor c.reading.cursor).current here.0 here.1)) c.in-Ok-step.ensures.moved

pub returns-in-Err-step-clause-walk : goal.returns-in-Err-step-clause-walk
returns-in-Err-step-clause-walk g c =
    let here = stands_on (g.C.Listed.cursor c.reading.cursor).current c.at_end.result c.at_end.ensures c.reading-test.true in
    goes_over g.C.Listed.cursor g.C.Listed.whole g.C.Listed.steady g.C.Listed.offends (g.D.Disk.disk c.args.disk.now) c.args.cursor.now (g.D.Disk.disk c.reading.disk) c.reading.cursor c.reading.names.items c.reading.invariant
    (g.D.Disk.disk c.step.new.disk) c.step.new.cursor (c.step.ensures.walk (λ (v : Version). true) (passes_any (g.C.Listed.cursor c.reading.cursor).current here.0 here.1))
