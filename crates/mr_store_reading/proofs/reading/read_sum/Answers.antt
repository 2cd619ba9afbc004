use Rattle.std.proofs.Common.{◌≡◌, sym, ap, subst, false, Ok}
use Rattle.mr_base.specs.Disk.{Moment, Image, seen}
use Rattle.mr_base.proofs.Moments.{same_present}
use Rattle.mr_base.proofs.Counting.{rises_tells}
use Rattle.mr_gate.specs.Log.{records_from, is_damaged_from}
use Rattle.mr_manifest.specs.Manifest.{sum_of_file}
use Rattle.mr_stored.specs.Said.{manifest_sum}
use Rattle.mr_store_reading.specs.ReadBack.{Offends, OffendsIn, judged_first}
use Rattle.mr_store_reading.proofs.Summed.{err_is, is_sound, sum_offends}
use Rattle.mr_store_reading.proofs.reading.read_sum.Goals as goal

pub returns-in_err-judge_first-clause-damaged : goal.returns-in_err-judge_first-clause-damaged
returns-in_err-judge_first-clause-damaged g c tells =
    let old = g.D.Disk.disk c.args.disk.now in
    let mid = g.D.Disk.disk c.read_manifest.new.disk in
    let e = c.in_err-judge_first.field-0.0 in
    let sum : sum_of_file (seen old 0) ≡ Ok c.in_ok-sum.sum = c.in_ok-sum.ensures.read tells in
    let is : seen mid ≡ seen old = ap (λ (m : Moment). λ file. (m.files file).bytes) (same_present old mid (c.in_ok-sum.ensures.same tells)) in
    let sound : is_damaged_from 0 (seen mid 0) ≡ false = subst (λ (i : Image). is_damaged_from 0 (i 0) ≡ false) (sym is) (is_sound (seen old 0) c.in_ok-sum.sum sum) in
    err_is c.from_residual-in_err-judge_first.result e (Offends (manifest_sum (seen old))) c.from_residual-in_err-judge_first.ensures.1
    (sum_offends (seen old) c.in_ok-sum.sum e sum (subst (λ (i : Image). OffendsIn 0 (judged_first (records_from 0 (i 0))) e) is
    (c.in_err-judge_first.ensures.differs (rises_tells 0 old mid c.in_ok-sum.ensures.rises tells) sound)))
