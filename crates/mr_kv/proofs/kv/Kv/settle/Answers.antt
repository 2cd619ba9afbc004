use Rattle.std.proofs.Common.{◌≡◌, ◌⊎◌, ◌==◌, true, false, None, Result, Ok, Err, OnOk, inl, inr, refl, sym, subst, arith}
use Rattle.std.proofs.lemmas.Bool.{cases_Bool}
use Rattle.std.proofs.lemmas.Bool.Decides.{nat_tests}
use Rattle.mr_base.specs.Disk.{State, Tells, present, seen, file_of, IsAtRest}
use Rattle.mr_base.specs.Calls.{OneFile}
use Rattle.mr_base.specs.declared.stop.Stop.{Stop}
use Rattle.mr_base.specs.declared.stop.Stop.TheVariants.{Disk}
use Rattle.mr_gate.specs.Gate.{IsUntouched}
use Rattle.mr_base.proofs.Moments.{at_end}
use Rattle.mr_engine_log.specs.Added.{HasRecord, MayHaveRecord}
use Rattle.mr_engine_log.specs.Standing.{LogState, IsReady as LogIsReady, IsRecordStop, with_record}
use Rattle.mr_kv.specs.Store.{IsReady}
use Rattle.mr_kv.proofs.Outcomes.{on_ok_given, if_err_both}
use Rattle.mr_kv.proofs.Ready.{ready_settled, ready_as_before, untouched_settle}
use Rattle.mr_wal.specs.declared.record.WalBody.TheVariants.{Decided}
use Rattle.mr_kv.specs.Batch.{next_record, size_next}
use Rattle.mr_kv.proofs.Moments.{writes}
use Rattle.mr_kv.proofs.kv.Kv.settle.Goals as goal

pub returns-clause-any_moment : goal.returns-clause-any_moment
returns-clause-any_moment g c = λ told.
    let s = g.D.Disk.disk c.args.disk.now in
    let t = g.D.Disk.disk c.settle.new.disk in
    let holds = c.requires.ready.holds told in
    writes (next_record c.args.self.now Decided) c.args.self.now.log.gate.file s t (record { live = c.args.self.now.manifest.live; logged = holds.logged }) holds.says c.requires.ready.file (c.settle.ensures.any_moment told)

pub returns-clause-ready : goal.returns-clause-ready
returns-clause-ready g c = by_verdict (cases_Bool (c.args.self.now.log.verdict == 0))
  where
    by_result : (c.args.self.now.log.verdict ≡ 0 → ⊥) → (r : Result (Unit {0}) Stop) → c.settle.result ≡ r → OnOk r (IsReady (record { manifest = c.args.self.now.manifest; log = c.settle.new.self; families = c.args.self.now.families }) (g.D.Disk.disk c.settle.new.disk))
    by_result some (Err e) is = tt
    by_result some (Ok u) is =
        let kv = c.args.self.now in
        let s = g.D.Disk.disk c.args.disk.now in
        let t = g.D.Disk.disk c.settle.new.disk in
        let n = size_next kv Decided in
        let log : c.settle.new.self ≡ with_record n None kv.log.last kv.log = subst (λ (r : Result (Unit {0}) Stop). OnOk r (c.settle.new.self ≡ with_record n None kv.log.last kv.log)) is (c.settle.ensures.log some) in
        let ready : LogIsReady c.settle.new.self t = subst (λ (r : Result (Unit {0}) Stop). OnOk r (LogIsReady c.settle.new.self t)) is c.settle.ensures.ready in
        let has : Tells s → HasRecord (next_record kv Decided) (seen s kv.log.gate.file) (seen t kv.log.gate.file) = λ told. subst (λ (r : Result (Unit {0}) Stop). OnOk r (HasRecord (next_record kv Decided) (seen s kv.log.gate.file) (seen t kv.log.gate.file))) is (c.settle.ensures.has told some) in
        subst (λ (l : LogState). IsReady (record { manifest = kv.manifest; log = l; families = kv.families }) t) (sym log)
        (ready_settled (λ d v vs more. c.place_in_first_child.ensures d v vs more) kv s t c.requires.ready c.requires.nothing c.settle.ensures.counts.tells
        (λ told other apart. (at_end s t (OneFile kv.log.gate.file (present s) (λ bytes. IsAtRest (file_of s kv.log.gate.file) → MayHaveRecord (next_record kv Decided) (file_of s kv.log.gate.file).bytes bytes)) (c.settle.ensures.any_moment told)).files other apart)
        n has (subst (λ (l : LogState). LogIsReady l t) log ready))

    by_verdict : ((c.args.self.now.log.verdict == 0) ≡ true) ⊎ ((c.args.self.now.log.verdict == 0) ≡ false) → OnOk c.settle.result (IsReady (record { manifest = c.args.self.now.manifest; log = c.settle.new.self; families = c.args.self.now.families }) (g.D.Disk.disk c.settle.new.disk))
    by_verdict (inl none) =
        let kv = c.args.self.now in
        let all = c.settle.ensures.settled (grind (arith, nat_tests, none)) in
        on_ok_given c.settle.result (IsReady (record { manifest = kv.manifest; log = c.settle.new.self; families = kv.families }) (g.D.Disk.disk c.settle.new.disk))
        (subst (λ (l : LogState). IsReady (record { manifest = kv.manifest; log = l; families = kv.families }) (g.D.Disk.disk c.settle.new.disk)) (sym all.1)
        (subst (λ (u : State). IsReady kv u) (sym all.2) c.requires.ready))
    by_verdict (inr some) = by_result (λ zero. verdict_is_some zero some) c.settle.result refl
      where
        verdict_is_some : c.args.self.now.log.verdict ≡ 0 → (c.args.self.now.log.verdict == 0) ≡ false → ⊥
        verdict_is_some zero some = grind (arith, nat_tests, zero, some)

pub returns-clause-usable : goal.returns-clause-usable
returns-clause-usable g c =
    let kv = c.args.self.now in
    let s = g.D.Disk.disk c.args.disk.now in
    let t = g.D.Disk.disk c.settle.new.disk in
    if_err_both c.settle.result (IsRecordStop kv.log.gate (size_next kv Decided) s t) (λ (e : Stop). (e ≡ Disk) ⊎ (c.settle.new.self ≡ kv.log)) (λ (e : Stop). (e ≡ Disk) ⊎ IsReady (record { manifest = kv.manifest; log = c.settle.new.self; families = kv.families }) t)
    (λ e stop kept. usable (untouched_settle kv.log.gate (size_next kv Decided) s t e stop) kept) c.settle.ensures.err c.settle.ensures.kept
  where
    usable : {e : Stop} → (e ≡ Disk) ⊎ IsUntouched (g.D.Disk.disk c.args.disk.now) (g.D.Disk.disk c.settle.new.disk) → (e ≡ Disk) ⊎ (c.settle.new.self ≡ c.args.self.now.log) → (e ≡ Disk) ⊎ IsReady (record { manifest = c.args.self.now.manifest; log = c.settle.new.self; families = c.args.self.now.families }) (g.D.Disk.disk c.settle.new.disk)
    usable (inl fault) kept = inl fault
    usable (inr untouched) (inl fault) = inl fault
    usable (inr untouched) (inr same) =
        inr (subst (λ (l : LogState). IsReady (record { manifest = c.args.self.now.manifest; log = l; families = c.args.self.now.families }) (g.D.Disk.disk c.settle.new.disk)) (sym same)
        (ready_as_before c.args.self.now (g.D.Disk.disk c.args.disk.now) (g.D.Disk.disk c.settle.new.disk) c.requires.ready c.requires.nothing untouched))
