use Rattle.std.proofs.Common.{◌+◌, true, is_some, length, refl, ap}
use Rattle.mr_iter.specs.Versions.{Version}
use Rattle.mr_compact.specs.Writing.{passed_key, touched}
use Rattle.mr_compact.specs.Merges.{MayEnd}
use Rattle.mr_compact.proofs.Carrying.{if_err, err_merges, stands_on, passes_any, merging_start, next, over, room, merges_of, ends_step, wrote}
use Rattle.mr_compact.proofs.merging.merge_runs.Goals as goal

pub merging-init : goal.merging-init
merging-init g c =
    merging_start g.C.Listed.cursor g.C.Listed.whole g.C.Listed.steady g.C.Listed.offends g.W.RunOut.run c.args.first_file c.args.oldest c.args.bottom (g.F.Filter.keeps c.args.filter.now) (g.W.RunOut.stands c.args.out.now) (g.D.Disk.disk c.args.disk.now) c.args.cursor.now (g.W.RunOut.out c.args.out.now) (record { first_file = c.args.first_file; runs = c.new.result; last = c.new-2.result }) (passed_key c.new-skip.result)
    refl c.new.ensures c.new-2.ensures.is c.new-skip.ensures.key c.requires.direction c.requires.beginning g.met.C.Listed.in_order

pub merging-preserved : goal.merging-preserved
merging-preserved g c =
    let here = stands_on (g.C.Listed.cursor c.merging.cursor).current c.at_end.result c.at_end.ensures c.merging-test.true in
    next g.C.Listed.cursor g.C.Listed.whole g.C.Listed.steady g.C.Listed.offends g.W.RunOut.run c.args.first_file c.args.oldest c.args.bottom (g.F.Filter.keeps c.args.filter.now) (g.W.RunOut.stands c.merging.out) (g.D.Disk.disk c.args.disk.now) (g.D.Disk.disk c.merging.disk) c.args.cursor.now c.merging.cursor (g.W.RunOut.out c.merging.out) c.merging.written (passed_key c.merging.skip) c.merging.invariant
    g.met.C.Listed.by_files (g.W.RunOut.stands c.write_version.new.out) (g.D.Disk.disk c.write_version.new.disk) (g.D.Disk.disk c.step.new.disk) c.step.new.cursor (g.W.RunOut.out c.write_version.new.out) c.write_version.new.written (passed_key c.write_version.new.skip) (λ (v : Version). true) here.0 here.1
    c.in_ok-write_version.ensures.wrote c.write_version.ensures.first c.write_version.ensures.direction c.in_ok-write_version.ensures.ready (λ vs all told held. c.in_ok-write_version.ensures.holds here.0 vs all here.1 told held)
    (c.step.ensures.walk (λ (v : Version). true) (passes_any (g.C.Listed.cursor c.merging.cursor).current here.0 here.1)) c.in_ok-step.ensures.steps c.in_ok-step.ensures.moved

pub returns-in_err-step-clause-merges : goal.returns-in_err-step-clause-merges
returns-in_err-step-clause-merges g c =
    let here = stands_on (g.C.Listed.cursor c.merging.cursor).current c.at_end.result c.at_end.ensures c.merging-test.true in
    let fits = room g.C.Listed.cursor g.C.Listed.whole g.C.Listed.steady g.C.Listed.offends g.W.RunOut.run c.args.first_file c.args.oldest c.args.bottom (g.F.Filter.keeps c.args.filter.now) (g.W.RunOut.stands c.merging.out) (g.D.Disk.disk c.args.disk.now) (g.D.Disk.disk c.merging.disk) c.args.cursor.now c.merging.cursor (g.W.RunOut.out c.merging.out) c.merging.written (passed_key c.merging.skip) c.merging.invariant (g.met.C.Listed.going c.merging.cursor (ap is_some here.1)) in
    err_merges c.args.first_file (g.C.Listed.cursor c.args.cursor.now).steps (g.C.Listed.offends c.args.cursor.now) (g.C.Listed.offends c.step.new.cursor) (g.C.Listed.whole c.args.cursor.now) (g.C.Listed.whole c.step.new.cursor) (g.C.Listed.steady c.args.cursor.now) (g.C.Listed.steady c.step.new.cursor) (g.C.Listed.cursor c.args.cursor.now) (g.C.Listed.cursor c.step.new.cursor) (g.D.Disk.disk c.args.disk.now) (g.D.Disk.disk c.step.new.disk)
    c.from_residual-in_err-step.result c.from_residual-in_err-step.ensures.0
    (merges_of g.C.Listed.cursor g.C.Listed.whole g.C.Listed.steady g.C.Listed.offends c.args.first_file (touched c.merging.written + 1) (touched c.merging.written + 1) (g.C.Listed.cursor c.args.cursor.now).steps (g.D.Disk.disk c.args.disk.now) (g.D.Disk.disk c.step.new.disk) c.args.cursor.now c.step.new.cursor fits fits
    (over g.C.Listed.cursor g.C.Listed.whole g.C.Listed.steady g.C.Listed.offends g.W.RunOut.run c.args.first_file c.args.oldest c.args.bottom (g.F.Filter.keeps c.args.filter.now) (g.W.RunOut.stands c.merging.out) (g.D.Disk.disk c.args.disk.now) (g.D.Disk.disk c.merging.disk) c.args.cursor.now c.merging.cursor (g.W.RunOut.out c.merging.out) c.merging.written (passed_key c.merging.skip) c.merging.invariant
    g.met.C.Listed.by_files (g.D.Disk.disk c.write_version.new.disk) (g.D.Disk.disk c.step.new.disk) c.step.new.cursor c.write_version.new.written (λ (v : Version). true) c.in_ok-write_version.ensures.wrote (c.step.ensures.walk (λ (v : Version). true) (passes_any (g.C.Listed.cursor c.merging.cursor).current here.0 here.1))))

pub returns-in_err-step-clause-stops : goal.returns-in_err-step-clause-stops
returns-in_err-step-clause-stops g c =
    if_err c.from_residual-in_err-step.result c.in_err-step.field-0.0 (MayEnd (g.C.Listed.offends c.args.cursor.now) c.args.first_file (g.C.Listed.cursor c.args.cursor.now).files (g.D.Disk.disk c.args.disk.now) (g.D.Disk.disk c.step.new.disk)) c.from_residual-in_err-step.ensures.1
    (ends_step g.C.Listed.cursor g.C.Listed.whole g.C.Listed.steady g.C.Listed.offends g.met.C.Listed.offends_by_files c.args.first_file (touched c.write_version.new.written) (length c.write_version.new.written.runs) (g.D.Disk.disk c.args.disk.now) (g.D.Disk.disk c.write_version.new.disk) (g.D.Disk.disk c.step.new.disk) c.args.cursor.now c.merging.cursor
    (wrote g.C.Listed.cursor g.C.Listed.whole g.C.Listed.steady g.C.Listed.offends g.W.RunOut.run c.args.first_file c.args.oldest c.args.bottom (g.F.Filter.keeps c.args.filter.now) (g.W.RunOut.stands c.merging.out) (g.D.Disk.disk c.args.disk.now) (g.D.Disk.disk c.merging.disk) c.args.cursor.now c.merging.cursor (g.W.RunOut.out c.merging.out) c.merging.written (passed_key c.merging.skip) c.merging.invariant (g.D.Disk.disk c.write_version.new.disk) c.write_version.new.written c.in_ok-write_version.ensures.wrote) c.in_err-step.field-0.0 c.in_err-step.ensures.stops)
