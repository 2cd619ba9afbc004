use Rattle.std.proofs.Common.{◌+◌, length, subst}
use Rattle.mr_wal.specs.declared.record.WalBody.TheVariants.{Prepare}
use Rattle.mr_wal.specs.EngineLog.{record_bytes}
use Rattle.mr_gate.specs.Gate.{HasNoRoom}
use Rattle.mr_engine_log.specs.Standing.{LogState, IsFullFor, record_of}
use Rattle.mr_engine_log.proofs.Stops.{err_is}
use Rattle.mr_engine_log.proofs.log.EngineLog.room.Goals as goal

pub returns-in_err-next_sequence-clause-full : goal.returns-in_err-next_sequence-clause-full
returns-in_err-next_sequence-clause-full c = λ k.
    let log = c.args.self.now in
    let n = length (record_bytes (record_of log (Prepare k (log.last + 1) c.args.batch.now))) in
    err_is c.from_residual.result c.in_err-next_sequence.field-0.0 (IsFullFor log n) c.from_residual.ensures.1
    (subst (λ (v : LogState). IsFullFor v n c.in_err-next_sequence.field-0.0) c.self.view_is (c.in_err-next_sequence.ensures.full n (c.prepare_length.ensures log.verdict k (log.last + 1))))

pub returns-clause-ok : goal.returns-clause-ok
returns-clause-ok c = λ k.
    let log = c.args.self.now in
    let n = length (record_bytes (record_of log (Prepare k (log.last + 1) c.args.batch.now))) in
    subst (λ (v : LogState). HasNoRoom v.gate n → ⊥) c.self.view_is (c.in_ok-next_sequence.ensures.room n (c.prepare_length.ensures log.verdict k (log.last + 1)))
