use Rattle.std.proofs.Common.{◌+◌, [], ◌∷◌, ℕ, List, length, refl, ◌∙◌, ap, arith}
use Rattle.std.specs.Int.{w32, to_be_bytes}
use Rattle.mr_base.specs.Disk.{file_of, overwrite}
use Rattle.mr_base.proofs.Counting.{still_tells}
use Rattle.mr_base.proofs.Moments.{behind_write, then_settles}
use Rattle.mr_gate.proofs.Bytes.{length_closed, on_ok}
use Rattle.mr_gate.proofs.Stage.{started, appended}
use Rattle.mr_gate.proofs.appending.stage.Goals as goal

pub returns-in_err-write_at-clause-any_moment : goal.returns-in_err-write_at-clause-any_moment
returns-in_err-write_at-clause-any_moment g c tells =
    let disk = g.D.Disk.disk in
    let place = c.args.place in
    let start = started c.args.file place (disk c.args.disk.now) (g.met.D.Disk.read_may_be_left c.args.disk.now c.args.file tells) (c.requires.closed tells) in
    let first = behind_write c.args.file (place + 1) _ _ _ (disk c.write_at.new.self) (place + 1) _ start (omega arith) (c.write_at.ensures.changes tells) in
    first.during

pub returns-in_err-write_at-2-clause-any_moment : goal.returns-in_err-write_at-2-clause-any_moment
returns-in_err-write_at-2-clause-any_moment g c tells =
    let disk = g.D.Disk.disk in
    let place = c.args.place in
    let start = started c.args.file place (disk c.args.disk.now) (g.met.D.Disk.read_may_be_left c.args.disk.now c.args.file tells) (c.requires.closed tells) in
    let first = behind_write c.args.file (place + 1) _ _ _ (disk c.write_at.new.self) (place + 1) _ start (omega arith) (c.write_at.ensures.changes tells) in
    let tells1 = still_tells _ _ _ _ _ c.write_at.ensures.counts tells in
    let second = behind_write c.args.file (place + 1) _ _ _ (disk c.write_at-2.new.self) (place + 5) _ first (omega arith) (c.write_at-2.ensures.changes tells1) in
    second.during

pub returns-in_err-write_at-3-clause-any_moment : goal.returns-in_err-write_at-3-clause-any_moment
returns-in_err-write_at-3-clause-any_moment g c tells =
    let disk = g.D.Disk.disk in
    let place = c.args.place in
    let start = started c.args.file place (disk c.args.disk.now) (g.met.D.Disk.read_may_be_left c.args.disk.now c.args.file tells) (c.requires.closed tells) in
    let first = behind_write c.args.file (place + 1) _ _ _ (disk c.write_at.new.self) (place + 1) _ start (omega arith) (c.write_at.ensures.changes tells) in
    let tells1 = still_tells _ _ _ _ _ c.write_at.ensures.counts tells in
    let second = behind_write c.args.file (place + 1) _ _ _ (disk c.write_at-2.new.self) (place + 5) _ first (omega arith) (c.write_at-2.ensures.changes tells1) in
    let tells2 = still_tells _ _ _ _ _ c.write_at-2.ensures.counts tells1 in
    let third = behind_write c.args.file (place + 1) _ _ _ (disk c.write_at-3.new.self) (place + 5 + length c.args.body.now) _ second (omega arith) (c.write_at-3.ensures.changes tells2) in
    third.during

pub returns-clause-any_moment : goal.returns-clause-any_moment
returns-clause-any_moment g c tells =
    let disk = g.D.Disk.disk in
    let place = c.args.place in
    let start = started c.args.file place (disk c.args.disk.now) (g.met.D.Disk.read_may_be_left c.args.disk.now c.args.file tells) (c.requires.closed tells) in
    let first = behind_write c.args.file (place + 1) _ _ _ (disk c.write_at.new.self) (place + 1) _ start (omega arith) (c.write_at.ensures.changes tells) in
    let tells1 = still_tells _ _ _ _ _ c.write_at.ensures.counts tells in
    let second = behind_write c.args.file (place + 1) _ _ _ (disk c.write_at-2.new.self) (place + 5) _ first (omega arith) (c.write_at-2.ensures.changes tells1) in
    let tells2 = still_tells _ _ _ _ _ c.write_at-2.ensures.counts tells1 in
    let third = behind_write c.args.file (place + 1) _ _ _ (disk c.write_at-3.new.self) (place + 5 + length c.args.body.now) _ second (omega arith) (c.write_at-3.ensures.changes tells2) in
    let tells3 = still_tells _ _ _ _ _ c.write_at-3.ensures.counts tells2 in
    then_settles c.args.file _ _ (disk c.sync.new.self) _ third.during (c.sync.ensures.settles tells3)

pub returns-clause-staged : goal.returns-clause-staged
returns-clause-staged g c tells =
    let disk = g.D.Disk.disk in
    let file = c.args.file in
    let tells1 = still_tells _ _ _ _ _ c.write_at.ensures.counts tells in
    let tells2 = still_tells _ _ _ _ _ c.write_at-2.ensures.counts tells1 in
    let tells3 = still_tells _ _ _ _ _ c.write_at-3.ensures.counts tells2 in
    let staged = appended c.args.place (length c.args.body.now) (file_of (disk c.args.disk.now) file).bytes (file_of (disk c.write_at.new.self) file).bytes
    (file_of (disk c.write_at-2.new.self) file).bytes (file_of (disk c.write_at-3.new.self) file).bytes (to_be_bytes w32 (length c.args.body.now)) c.args.body.now (0 ∷ [])
    (length_closed c.args.place _ (c.requires.closed tells)) refl refl (c.in_ok-write_at.ensures.written tells ∙ ap (λ (l : List ℕ). overwrite (c.args.place + 1) l (file_of (disk c.args.disk.now) file).bytes) c.to_be_bytes.ensures) (c.in_ok-write_at-2.ensures.written tells1) (c.in_ok-write_at-3.ensures.written tells2) in
    on_ok c.sync.result (c.sync.ensures.seen tells3 ∙ staged)
