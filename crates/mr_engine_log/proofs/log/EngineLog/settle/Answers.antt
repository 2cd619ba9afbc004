use Rattle.std.proofs.Common.{◌≡◌, Option, None, sym, refl, ◌∙◌, ap, subst}
use Rattle.mr_gate.specs.Gate.{HasNoRoom, full}
use Rattle.mr_engine_log.specs.Standing.{LogState, IsRecordStop, IsReady}
use Rattle.mr_engine_log.specs.declared.batched.Prepared.{Prepared}
use Rattle.mr_engine_log.proofs.Ready.{decided_leaves}
use Rattle.mr_engine_log.proofs.Stops.{err_is, no_room_stop}
use Rattle.mr_engine_log.proofs.log.EngineLog.settle.Goals as goal

pub returns-in_err-check_room-clause-err : goal.returns-in_err-check_room-clause-err
returns-in_err-check_room-clause-err g c =
    let s = g.D.Disk.disk c.args.disk.now in
    let log = c.args.self.now in
    err_is c.from_residual.result c.in_err-check_room.field-0.0 (IsRecordStop log.gate 2 s s) c.from_residual.ensures.1
    (no_room_stop log.gate 2 s c.in_err-check_room.field-0.0
    (subst (λ (v : LogState). (c.in_err-check_room.field-0.0 ≡ full v.gate) × HasNoRoom v.gate 2) c.self.view_is (c.in_err-check_room.ensures.full 2 refl)))

pub append-requires-clause-room : goal.append-requires-clause-room
append-requires-clause-room g c = c.in_ok-check_room.ensures.room 2 refl

pub returns-clause-room : goal.returns-clause-room
returns-clause-room g c due = subst (λ (v : LogState). HasNoRoom v.gate 2 → ⊥) c.self.view_is (c.in_ok-check_room.ensures.room 2 refl)

pub returns-clause-ready : goal.returns-clause-ready
returns-clause-ready g c =
    let new = g.D.Disk.disk c.append.new.disk in
    let none : c.self.inside.pending ≡ None = ap (λ (v : LogState). v.pending) c.self.view_is ∙ c.requires.nothing in
    subst (λ (o : Option Prepared). IsReady (record { gate = c.append.new.log; base = c.self.inside.base; pending = o; last = c.self.inside.last; verdict = 0 }) new) (sym none)
    (c.in_ok-append.ensures.ready None c.self.inside.last (decided_leaves c.self.inside.last))
