use Rattle.std.proofs.Common.{◌≡◌, Some, List, sym, ◌∙◌, subst}
use Rattle.mr_wal.specs.declared.operation.Operation.{Operation}
use Rattle.mr_engine_log.specs.Standing.{LogState, IsReady as LogIsReady}
use Rattle.mr_engine_log.specs.declared.batched.Prepared.{Prepared}
use Rattle.mr_families.specs.Batches.{Added}
use Rattle.mr_kv.specs.Store.{IsReady}
use Rattle.mr_kv.proofs.Ready.{ready_decided}
use Rattle.mr_kv.proofs.kv.Kv.decide.Goals as goal

pub returns-in-Some-clause-ready : goal.returns-in-Some-clause-ready
returns-in-Some-clause-ready c = λ s ready naming.
    let kv = c.args.self.now in
    let p : Prepared = record { commit = c.in-Some.batch.commit; sequence = c.in-Some.batch.sequence; operations = c.in-Some.batch.operations } in
    let pending : kv.log.pending ≡ Some p = sym c.decide.ensures.decided ∙ c.in-Some.is in
    subst (λ (l : LogState). IsReady (record { manifest = kv.manifest; log = l; families = c.add.new.self }) s) (sym c.decide.ensures.log)
    (ready_decided (λ d v vs more. c.place_in_first_child.ensures d v vs more) kv s ready p pending naming c.add.new.self (subst (λ (os : List Operation). Added c.in-Some.batch.sequence os kv.families c.add.new.self) c.as_slice.ensures c.add.ensures) (subst (λ (l : LogState). LogIsReady l s) c.decide.ensures.log (c.decide.ensures.ready s ready.log)))
