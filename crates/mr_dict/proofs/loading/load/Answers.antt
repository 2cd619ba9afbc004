use Rattle.std.proofs.Common.{true}
use Rattle.mr_iter.specs.Versions.{Version}
use Rattle.mr_dict.specs.Given.{passed_key}
use Rattle.mr_dict.specs.Loading.{TakesIn}
use Rattle.mr_dict.proofs.Carrying.{stands_on, passes_any, in_some, loading_next, goes_over}
use Rattle.mr_dict.proofs.loading.load.Goals as goal

pub loading-preserved : goal.loading-preserved
loading-preserved g c =
    let here = stands_on (g.C.Listed.cursor c.loading.cursor).current c.at_end.result c.at_end.ensures c.loading-test.true in
    loading_next g.C.Listed.cursor g.C.Listed.whole g.C.Listed.steady g.C.Listed.offends (g.D.Disk.disk c.args.disk.now) c.args.cursor.now (g.D.Disk.disk c.loading.disk) c.loading.cursor (passed_key c.loading.passed) c.loading.dict c.loading.invariant
    g.met.C.Listed.in_order here.0 here.1 (passed_key c.take_version.new.passed) c.take_version.new.dict
    (in_some (λ v. TakesIn (passed_key c.loading.passed) v (passed_key c.take_version.new.passed) c.loading.dict c.take_version.new.dict) (g.C.Listed.cursor c.loading.cursor).current here.0 here.1 c.in_ok-take_version.ensures.taken)
    (g.D.Disk.disk c.step.new.disk) c.step.new.cursor (c.step.ensures.walk (λ (v : Version). true) (passes_any (g.C.Listed.cursor c.loading.cursor).current here.0 here.1)) c.in_ok-step.ensures.moved

pub returns-in_err-step-clause-walk : goal.returns-in_err-step-clause-walk
returns-in_err-step-clause-walk g c =
    let here = stands_on (g.C.Listed.cursor c.loading.cursor).current c.at_end.result c.at_end.ensures c.loading-test.true in
    goes_over g.C.Listed.cursor g.C.Listed.whole g.C.Listed.steady g.C.Listed.offends (g.D.Disk.disk c.args.disk.now) c.args.cursor.now (g.D.Disk.disk c.loading.disk) c.loading.cursor (passed_key c.loading.passed) c.loading.dict c.loading.invariant
    (g.D.Disk.disk c.step.new.disk) c.step.new.cursor (c.step.ensures.walk (λ (v : Version). true) (passes_any (g.C.Listed.cursor c.loading.cursor).current here.0 here.1))
