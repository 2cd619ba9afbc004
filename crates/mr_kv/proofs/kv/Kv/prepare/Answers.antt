use Rattle.std.proofs.Common.{◌≡◌, ◌⊎◌, ◌+◌, Some, Result, Ok, Err, OnOk, List, inl, inr, refl, sym, subst, arith}
use Rattle.mr_base.specs.Disk.{Tells, present, seen, file_of, IsAtRest}
use Rattle.mr_base.specs.declared.stop.Stop.{Stop}
use Rattle.mr_base.specs.declared.stop.Stop.TheVariants.{Disk}
use Rattle.mr_gate.specs.Gate.{IsUntouched}
use Rattle.mr_store_memory.specs.Readied.{Readied}
use Rattle.mr_engine_log.specs.Standing.{LogState, IsReady as LogIsReady, IsAppendStop, HasNoNumber, with_record, prepared}
use Rattle.mr_base.specs.Calls.{OneFile}
use Rattle.mr_base.proofs.Moments.{at_end}
use Rattle.mr_wal.specs.declared.record.WalBody.TheVariants.{Prepare}
use Rattle.mr_engine_log.specs.Added.{HasRecord, MayHaveRecord}
use Rattle.mr_wal.specs.declared.operation.Operation.{Operation}
use Rattle.mr_families.specs.Batches.{AreAwaited}
use Rattle.mr_kv.specs.Store.{IsReady}
use Rattle.mr_kv.specs.Batch.{IsMadeReady, next_record, size_next}
use Rattle.mr_kv.proofs.Moments.{writes, writes_none}
use Rattle.mr_kv.proofs.Ready.{ready_prepared, ready_unwritten, untouched_append, untouched_itself}
use Rattle.mr_kv.proofs.Outcomes.{if_err_given, if_err_both}
use Rattle.mr_kv.proofs.kv.Kv.prepare.Goals as goal

pub returns-in_err-make_ready-clause-any_moment : goal.returns-in_err-make_ready-clause-any_moment
returns-in_err-make_ready-clause-any_moment g c = λ told.
    let s = g.D.Disk.disk c.args.disk.now in
    let holds = c.requires.ready.holds told in
    writes_none (next_record c.args.self.now (Prepare c.args.k (c.args.self.now.log.last + 1) c.args.batch)) c.args.self.now.log.gate.file s (record { live = c.args.self.now.manifest.live; logged = holds.logged }) holds.says c.requires.ready.file

pub returns-clause-any_moment : goal.returns-clause-any_moment
returns-clause-any_moment g c = λ told.
    let s = g.D.Disk.disk c.args.disk.now in
    let t = g.D.Disk.disk c.prepare.new.disk in
    let holds = c.requires.ready.holds told in
    writes (next_record c.args.self.now (Prepare c.args.k (c.args.self.now.log.last + 1) c.args.batch)) c.args.self.now.log.gate.file s t (record { live = c.args.self.now.manifest.live; logged = holds.logged }) holds.says c.requires.ready.file (c.prepare.ensures.any_moment told)

pub returns-clause-ready : goal.returns-clause-ready
returns-clause-ready g c =
    by_result c.prepare.result refl
  where
    by_result : (r : Result (Unit {0}) Stop) → c.prepare.result ≡ r → OnOk r (IsReady (record { manifest = c.args.self.now.manifest; log = c.prepare.new.self; families = c.make_ready.new.families }) (g.D.Disk.disk c.prepare.new.disk))
    by_result (Err e) is = tt
    by_result (Ok u) is =
        let kv = c.args.self.now in
        let s = g.D.Disk.disk c.args.disk.now in
        let t = g.D.Disk.disk c.prepare.new.disk in
        let n = size_next kv (Prepare c.args.k (kv.log.last + 1) c.args.batch) in
        let pending = Some (prepared c.args.k (kv.log.last + 1) c.args.batch) in
        let log : c.prepare.new.self ≡ with_record n pending (kv.log.last + 1) kv.log = subst (λ (r : Result (Unit {0}) Stop). OnOk r (c.prepare.new.self ≡ with_record n pending (kv.log.last + 1) kv.log)) is c.prepare.ensures.log in
        let number : HasNoNumber kv.log.last → ⊥ = subst (λ (r : Result (Unit {0}) Stop). OnOk r (HasNoNumber kv.log.last → ⊥)) is c.prepare.ensures.number in
        let ready : LogIsReady c.prepare.new.self t = subst (λ (r : Result (Unit {0}) Stop). OnOk r (LogIsReady c.prepare.new.self t)) is c.prepare.ensures.ready in
        let has : Tells s → HasRecord (next_record kv (Prepare c.args.k (kv.log.last + 1) c.args.batch)) (seen s kv.log.gate.file) (seen t kv.log.gate.file) = λ told. subst (λ (r : Result (Unit {0}) Stop). OnOk r (HasRecord (next_record kv (Prepare c.args.k (kv.log.last + 1) c.args.batch)) (seen s kv.log.gate.file) (seen t kv.log.gate.file))) is (c.prepare.ensures.has told) in
        subst (λ (l : LogState). IsReady (record { manifest = kv.manifest; log = l; families = c.make_ready.new.families }) t) (sym log)
        (ready_prepared (λ d v vs more. c.place_in_first_child.ensures d v vs more) kv s t c.requires.ready c.requires.nothing c.prepare.ensures.counts.tells
        (λ told other apart. (at_end s t (OneFile kv.log.gate.file (present s) (λ bytes. IsAtRest (file_of s kv.log.gate.file) → MayHaveRecord (next_record kv (Prepare c.args.k (kv.log.last + 1) c.args.batch)) (file_of s kv.log.gate.file).bytes bytes)) (c.prepare.ensures.any_moment told)).files other apart)
        n c.args.k (kv.log.last + 1) (omega (arith, number)) c.args.batch c.requires.naming has (subst (λ (l : LogState). LogIsReady l t) log ready) c.make_ready.new.families
        (subst (λ (os : List Operation). IsMadeReady os kv.families c.make_ready.new.families) c.as_slice.ensures (record { readied = c.in_ok-make_ready.ensures.readied; turned = c.in_ok-make_ready.ensures.turned }))
        (subst (λ (os : List Operation). AreAwaited c.make_ready.new.families os) c.as_slice.ensures c.in_ok-make_ready.ensures.awaited))

pub returns-in_err-make_ready-clause-usable : goal.returns-in_err-make_ready-clause-usable
returns-in_err-make_ready-clause-usable g c =
    let kv = c.args.self.now in
    let s = g.D.Disk.disk c.args.disk.now in
    if_err_given c.from_residual.result (λ (e : Stop). (e ≡ Disk) ⊎ IsReady (record { manifest = kv.manifest; log = kv.log; families = c.make_ready.new.families }) s)
    (λ e. inr (ready_unwritten kv s s c.requires.ready c.requires.nothing (untouched_itself s) (λ d v vs more. c.place_in_first_child.ensures d v vs more) c.args.batch c.requires.naming c.make_ready.new.families
    (subst (λ (os : List Operation). Readied os kv.families c.make_ready.new.families) c.as_slice.ensures c.in_err-make_ready.ensures.readied)))

pub returns-clause-usable : goal.returns-clause-usable
returns-clause-usable g c =
    let kv = c.args.self.now in
    let s = g.D.Disk.disk c.args.disk.now in
    let t = g.D.Disk.disk c.prepare.new.disk in
    let n = size_next kv (Prepare c.args.k (kv.log.last + 1) c.args.batch) in
    if_err_both c.prepare.result (IsAppendStop kv.log n s t) (λ (e : Stop). (e ≡ Disk) ⊎ (c.prepare.new.self ≡ kv.log)) (λ (e : Stop). (e ≡ Disk) ⊎ IsReady (record { manifest = kv.manifest; log = c.prepare.new.self; families = c.make_ready.new.families }) t)
    (λ e stop kept. usable (untouched_append kv.log n s t e stop) kept) c.prepare.ensures.err c.prepare.ensures.kept
  where
    usable : {e : Stop} → (e ≡ Disk) ⊎ IsUntouched (g.D.Disk.disk c.args.disk.now) (g.D.Disk.disk c.prepare.new.disk) → (e ≡ Disk) ⊎ (c.prepare.new.self ≡ c.args.self.now.log) → (e ≡ Disk) ⊎ IsReady (record { manifest = c.args.self.now.manifest; log = c.prepare.new.self; families = c.make_ready.new.families }) (g.D.Disk.disk c.prepare.new.disk)
    usable (inl fault) kept = inl fault
    usable (inr untouched) (inl fault) = inl fault
    usable (inr untouched) (inr same) =
        inr (subst (λ (l : LogState). IsReady (record { manifest = c.args.self.now.manifest; log = l; families = c.make_ready.new.families }) (g.D.Disk.disk c.prepare.new.disk)) (sym same)
        (ready_unwritten c.args.self.now (g.D.Disk.disk c.args.disk.now) (g.D.Disk.disk c.prepare.new.disk) c.requires.ready c.requires.nothing untouched (λ d v vs more. c.place_in_first_child.ensures d v vs more) c.args.batch c.requires.naming c.make_ready.new.families
        (subst (λ (os : List Operation). Readied os c.args.self.now.families c.make_ready.new.families) c.as_slice.ensures c.in_ok-make_ready.ensures.readied)))
