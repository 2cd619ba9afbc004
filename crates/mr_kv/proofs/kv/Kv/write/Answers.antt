use Rattle.std.proofs.Common.{◌≡◌, ◌⊎◌, ◌+◌, List, None, inl, inr, sym, subst, arith}
use Rattle.mr_base.specs.Disk.{present, file_of, IsAtRest}
use Rattle.mr_base.specs.Calls.{OneFile}
use Rattle.mr_base.specs.declared.stop.Stop.{Stop}
use Rattle.mr_base.specs.declared.stop.Stop.TheVariants.{Disk}
use Rattle.mr_gate.specs.Gate.{IsUntouched}
use Rattle.mr_store_memory.specs.Readied.{Readied}
use Rattle.mr_base.proofs.Moments.{at_end}
use Rattle.mr_wal.specs.declared.record.WalBody.TheVariants.{Plain}
use Rattle.mr_wal.specs.declared.operation.Operation.{Operation}
use Rattle.mr_engine_log.specs.Added.{MayHaveRecord}
use Rattle.mr_engine_log.specs.Standing.{LogState, IsReady as LogIsReady, with_record}
use Rattle.mr_engine_log.specs.declared.batched.Batched.{Batched}
use Rattle.mr_families.specs.Batches.{Added}
use Rattle.mr_kv.specs.Store.{IsReady}
use Rattle.mr_kv.specs.Batch.{IsMadeReady, HasBatch, next_record, size_next}
use Rattle.mr_kv.proofs.Moments.{writes, writes_none}
use Rattle.mr_kv.proofs.Ready.{ready_written, ready_unwritten, untouched_append, untouched_itself}
use Rattle.mr_kv.proofs.Outcomes.{if_err_given, err_is}
use Rattle.mr_kv.proofs.kv.Kv.write.Goals as goal

pub returns-in_err-make_ready-clause-any_moment : goal.returns-in_err-make_ready-clause-any_moment
returns-in_err-make_ready-clause-any_moment g c = λ told.
    let s = g.D.Disk.disk c.args.disk.now in
    let holds = c.requires.ready.holds told in
    writes_none (next_record c.args.self.now (Plain (c.args.self.now.log.last + 1) c.args.batch)) c.args.self.now.log.gate.file s (record { live = c.args.self.now.manifest.live; logged = holds.logged }) holds.says c.requires.ready.file

pub returns-in_err-added-clause-any_moment : goal.returns-in_err-added-clause-any_moment
returns-in_err-added-clause-any_moment g c = λ told.
    let s = g.D.Disk.disk c.args.disk.now in
    let t = g.D.Disk.disk c.write.new.disk in
    let holds = c.requires.ready.holds told in
    writes (next_record c.args.self.now (Plain (c.args.self.now.log.last + 1) c.args.batch)) c.args.self.now.log.gate.file s t (record { live = c.args.self.now.manifest.live; logged = holds.logged }) holds.says c.requires.ready.file (c.write.ensures.any_moment told)

pub returns-clause-any_moment : goal.returns-clause-any_moment
returns-clause-any_moment g c = λ told.
    let s = g.D.Disk.disk c.args.disk.now in
    let t = g.D.Disk.disk c.write.new.disk in
    let holds = c.requires.ready.holds told in
    writes (next_record c.args.self.now (Plain (c.args.self.now.log.last + 1) c.args.batch)) c.args.self.now.log.gate.file s t (record { live = c.args.self.now.manifest.live; logged = holds.logged }) holds.says c.requires.ready.file (c.write.ensures.any_moment told)

pub returns-clause-ready : goal.returns-clause-ready
returns-clause-ready g c =
    let kv = c.args.self.now in
    let s = g.D.Disk.disk c.args.disk.now in
    let t = g.D.Disk.disk c.write.new.disk in
    let n = size_next kv (Plain (kv.log.last + 1) c.args.batch) in
    let given : c.in_ok-added.added ≡ record { commit = None; sequence = kv.log.last + 1; operations = c.args.batch } = c.in_ok-added.ensures.given in
    let log : c.write.new.self ≡ with_record n None (kv.log.last + 1) kv.log = c.in_ok-added.ensures.log in
    let added : Added (kv.log.last + 1) c.args.batch c.make_ready.new.families c.add.new.self = subst (λ (b : Batched). Added b.sequence b.operations c.make_ready.new.families c.add.new.self) given (subst (λ (os : List Operation). Added c.in_ok-added.added.sequence os c.make_ready.new.families c.add.new.self) c.as_slice-2.ensures c.add.ensures) in
    let batched : HasBatch (kv.log.last + 1) c.args.batch kv.families c.add.new.self = record { between = c.make_ready.new.families; made = subst (λ (os : List Operation). IsMadeReady os kv.families c.make_ready.new.families) c.as_slice.ensures (record { readied = c.in_ok-make_ready.ensures.readied; turned = c.in_ok-make_ready.ensures.turned }); added = added } in
    subst (λ (l : LogState). IsReady (record { manifest = kv.manifest; log = l; families = c.add.new.self }) t) (sym log)
    (ready_written (λ d v vs more. c.place_in_first_child.ensures d v vs more) kv s t c.requires.ready c.requires.nothing c.write.ensures.counts.tells
    (λ told other apart. (at_end s t (OneFile kv.log.gate.file (present s) (λ bytes. IsAtRest (file_of s kv.log.gate.file) → MayHaveRecord (next_record kv (Plain (kv.log.last + 1) c.args.batch)) (file_of s kv.log.gate.file).bytes bytes)) (c.write.ensures.any_moment told)).files other apart)
    n (kv.log.last + 1) (omega (arith, c.in_ok-added.ensures.number)) c.args.batch c.requires.naming c.in_ok-added.ensures.has (subst (λ (l : LogState). LogIsReady l t) log c.in_ok-added.ensures.ready) c.add.new.self batched)

pub returns-in_err-make_ready-clause-usable : goal.returns-in_err-make_ready-clause-usable
returns-in_err-make_ready-clause-usable g c =
    let kv = c.args.self.now in
    let s = g.D.Disk.disk c.args.disk.now in
    if_err_given c.from_residual.result (λ (e : Stop). (e ≡ Disk) ⊎ IsReady (record { manifest = kv.manifest; log = kv.log; families = c.make_ready.new.families }) s)
    (λ e. inr (ready_unwritten kv s s c.requires.ready c.requires.nothing (untouched_itself s) (λ d v vs more. c.place_in_first_child.ensures d v vs more) c.args.batch c.requires.naming c.make_ready.new.families
    (subst (λ (os : List Operation). Readied os kv.families c.make_ready.new.families) c.as_slice.ensures c.in_err-make_ready.ensures.readied)))

pub returns-in_err-added-clause-usable : goal.returns-in_err-added-clause-usable
returns-in_err-added-clause-usable g c =
    let kv = c.args.self.now in
    let s = g.D.Disk.disk c.args.disk.now in
    let t = g.D.Disk.disk c.write.new.disk in
    err_is c.from_residual-in_err-added.result c.in_err-added.field-0.0 (λ (e : Stop). (e ≡ Disk) ⊎ IsReady (record { manifest = kv.manifest; log = c.write.new.self; families = c.make_ready.new.families }) t) c.from_residual-in_err-added.ensures.1
    (usable (untouched_append kv.log (size_next kv (Plain (kv.log.last + 1) c.args.batch)) s t c.in_err-added.field-0.0 c.in_err-added.ensures.err) c.in_err-added.ensures.kept)
  where
    usable : {e : Stop} → (e ≡ Disk) ⊎ IsUntouched (g.D.Disk.disk c.args.disk.now) (g.D.Disk.disk c.write.new.disk) → (e ≡ Disk) ⊎ (c.write.new.self ≡ c.args.self.now.log) → (e ≡ Disk) ⊎ IsReady (record { manifest = c.args.self.now.manifest; log = c.write.new.self; families = c.make_ready.new.families }) (g.D.Disk.disk c.write.new.disk)
    usable (inl fault) kept = inl fault
    usable (inr untouched) (inl fault) = inl fault
    usable (inr untouched) (inr same) =
        inr (subst (λ (l : LogState). IsReady (record { manifest = c.args.self.now.manifest; log = l; families = c.make_ready.new.families }) (g.D.Disk.disk c.write.new.disk)) (sym same)
        (ready_unwritten c.args.self.now (g.D.Disk.disk c.args.disk.now) (g.D.Disk.disk c.write.new.disk) c.requires.ready c.requires.nothing untouched (λ d v vs more. c.place_in_first_child.ensures d v vs more) c.args.batch c.requires.naming c.make_ready.new.families
        (subst (λ (os : List Operation). Readied os c.args.self.now.families c.make_ready.new.families) c.as_slice.ensures c.in_ok-make_ready.ensures.readied)))
