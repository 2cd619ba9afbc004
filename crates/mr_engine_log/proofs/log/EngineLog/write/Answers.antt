use Rattle.std.proofs.Common.{◌≡◌, ◌+◌, length, Option, None, sym, ◌∙◌, ap, subst}
use Rattle.mr_wal.specs.declared.record.WalBody.TheVariants.{Plain}
use Rattle.mr_wal.specs.EngineLog.{record_bytes}
use Rattle.mr_gate.specs.Gate.{HasNoRoom}
use Rattle.mr_engine_log.specs.Standing.{LogState, IsFullFor, IsAppendStop, IsReady, record_of}
use Rattle.mr_engine_log.specs.declared.batched.Prepared.{Prepared}
use Rattle.mr_engine_log.proofs.Ready.{plain_leaves}
use Rattle.mr_engine_log.proofs.Stops.{err_is, full_stop}
use Rattle.mr_engine_log.proofs.log.EngineLog.write.Goals as goal

pub returns-in_err-sequence-clause-err : goal.returns-in_err-sequence-clause-err
returns-in_err-sequence-clause-err g c =
    let s = g.D.Disk.disk c.args.disk.now in
    let log = c.args.self.now in
    let n = length (record_bytes (record_of log (Plain (log.last + 1) c.args.batch))) in
    err_is c.from_residual.result c.in_err-sequence.field-0.0 (IsAppendStop log n s s) c.from_residual.ensures.1
    (full_stop log n s c.in_err-sequence.field-0.0 (subst (λ (v : LogState). IsFullFor v n c.in_err-sequence.field-0.0) c.self.view_is (c.in_err-sequence.ensures.full n (c.plain_length.ensures log.verdict (log.last + 1)))))

pub append-requires-clause-room : goal.append-requires-clause-room
append-requires-clause-room g c =
    let log = c.args.self.now in
    let n = length (record_bytes (record_of log (Plain (log.last + 1) c.args.batch))) in
    c.in_ok-sequence.ensures.room n (c.plain_length.ensures log.verdict (log.last + 1))

pub returns-clause-room : goal.returns-clause-room
returns-clause-room g c =
    let log = c.args.self.now in
    let n = length (record_bytes (record_of log (Plain (log.last + 1) c.args.batch))) in
    subst (λ (v : LogState). HasNoRoom v.gate n → ⊥) c.self.view_is (c.in_ok-sequence.ensures.room n (c.plain_length.ensures log.verdict (log.last + 1)))

pub returns-clause-ready : goal.returns-clause-ready
returns-clause-ready g c =
    let new = g.D.Disk.disk c.append.new.disk in
    let none : c.self.inside.pending ≡ None = ap (λ (v : LogState). v.pending) c.self.view_is ∙ c.requires.nothing in
    subst (λ (o : Option Prepared). IsReady (record { gate = c.append.new.log; base = c.self.inside.base; pending = o; last = c.in_ok-sequence.sequence; verdict = 0 }) new) (sym none)
    (c.in_ok-append.ensures.ready None c.in_ok-sequence.sequence (plain_leaves c.in_ok-sequence.sequence c.args.batch c.self.inside.last))
