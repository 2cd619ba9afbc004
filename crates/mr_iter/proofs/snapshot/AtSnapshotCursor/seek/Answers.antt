use Rattle.std.proofs.Common.{◌≡◌, None, true, false, ◌∙◌, ap}
use Rattle.mr_iter.specs.Cursors.{left, with_current}
use Rattle.mr_base.specs.Disk.{Image, seen}
use Rattle.mr_iter.specs.Snapshots.{shown, key_of, snapshot_state, IsInOrder-shown}
use Rattle.mr_iter.specs.SnapshotLaws.{snapshot_found, found_place}
use Rattle.mr_iter.proofs.Runs.{run_stays, run_steady, run_image}
use Rattle.mr_iter.proofs.SeekLaws.{stop_since}
use Rattle.mr_iter.proofs.Spent.{run_spent, snapshot_end, snapshot_spent}
use Rattle.mr_iter.proofs.snapshot.AtSnapshotCursor.seek.Goals as goal

pub returns-in-Ok-settle-clause-whole : goal.returns-in-Ok-settle-clause-whole
returns-in-Ok-settle-clause-whole g c =
    run_stays g.C.Listed.whole (g.D.Disk.disk c.args.disk.now) (g.D.Disk.disk c.seek.new.disk) (g.D.Disk.disk c.settle.new.disk) c.args.self.now.inner c.seek.new.self c.settle.new.inner c.seek.ensures.counts.tells c.seek.ensures.same c.seek.ensures.whole c.settle.ensures.whole

pub returns-in-Err-settle-clause-whole : goal.returns-in-Err-settle-clause-whole
returns-in-Err-settle-clause-whole g c =
    run_stays g.C.Listed.whole (g.D.Disk.disk c.args.disk.now) (g.D.Disk.disk c.seek.new.disk) (g.D.Disk.disk c.settle.new.disk) c.args.self.now.inner c.seek.new.self c.settle.new.inner c.seek.ensures.counts.tells c.seek.ensures.same c.seek.ensures.whole c.settle.ensures.whole

pub returns-in-Err-settle-clause-stops : goal.returns-in-Err-settle-clause-stops
returns-in-Err-settle-clause-stops g c =
    stop_since (g.D.Disk.disk c.args.disk.now) (g.D.Disk.disk c.seek.new.disk) (g.D.Disk.disk c.settle.new.disk) c.seek.ensures.counts.tells c.seek.ensures.same c.seek.ensures.counts.faults
    (g.C.Listed.offends c.seek.new.self) (g.C.Listed.offends c.args.self.now.inner) c.seek.ensures.offends c.in-Err-settle.stop c.in-Err-settle.ensures.stops

pub returns-in-Ok-settle-clause-offends : goal.returns-in-Ok-settle-clause-offends
returns-in-Ok-settle-clause-offends g c = λ image file at here. c.seek.ensures.offends image file at (c.settle.ensures.offends image file at here)

pub returns-in-Err-settle-clause-offends : goal.returns-in-Err-settle-clause-offends
returns-in-Err-settle-clause-offends g c = λ image file at here. c.seek.ensures.offends image file at (c.settle.ensures.offends image file at here)

pub returns-in-Ok-settle-clause-found : goal.returns-in-Ok-settle-clause-found
returns-in-Ok-settle-clause-found g c =
    λ told is. snapshot_found c.args.self.now.number (g.C.Listed.cursor c.args.self.now.inner) (g.C.Listed.cursor c.seek.new.self) (g.C.Listed.cursor c.settle.new.inner) c.args.key.now (seen (g.D.Disk.disk c.args.disk.now)) (g.met.C.Listed.in_order c.args.self.now.inner (seen (g.D.Disk.disk c.args.disk.now)) is).1 (c.in-Ok.ensures.found told is)
    (run_image g.C.Listed.whole (g.D.Disk.disk c.args.disk.now) (g.D.Disk.disk c.seek.new.disk) (g.D.Disk.disk c.settle.new.disk) c.args.self.now.inner c.seek.new.self c.settle.new.inner c.seek.ensures.counts.tells c.seek.ensures.same c.seek.ensures.whole (λ (image : Image). shown c.args.self.now.number None (left (g.C.Listed.cursor c.seek.new.self) image) ≡ with_current (g.C.Listed.cursor c.settle.new.inner).current (shown c.args.self.now.number (key_of (g.C.Listed.cursor c.settle.new.inner).current) ((g.C.Listed.cursor c.settle.new.inner).rest image))) c.in-Ok-settle.ensures.settled told is)

pub returns-in-Ok-settle-clause-steady : goal.returns-in-Ok-settle-clause-steady
returns-in-Ok-settle-clause-steady g c = λ told is. (
  run_steady g.C.Listed.whole (g.D.Disk.disk c.args.disk.now) (g.D.Disk.disk c.seek.new.disk) (g.D.Disk.disk c.settle.new.disk) c.args.self.now.inner c.seek.new.self c.settle.new.inner c.seek.ensures.counts.tells c.seek.ensures.same c.seek.ensures.whole g.C.Listed.steady c.in-Ok-settle.ensures.steady told is (c.in-Ok.ensures.steady told is),
  found_place (g.C.Listed.cursor c.args.self.now.inner).direction c.args.key.now (snapshot_state c.args.self.now.number true (g.C.Listed.cursor c.settle.new.inner)) (seen (g.D.Disk.disk c.args.disk.now)) (shown c.args.self.now.number None ((g.C.Listed.cursor c.args.self.now.inner).versions (seen (g.D.Disk.disk c.args.disk.now))))
      (IsInOrder-shown (g.C.Listed.cursor c.args.self.now.inner).direction c.args.self.now.number None ((g.C.Listed.cursor c.args.self.now.inner).versions (seen (g.D.Disk.disk c.args.disk.now))) (g.met.C.Listed.in_order c.args.self.now.inner (seen (g.D.Disk.disk c.args.disk.now)) is).1)
      (ap (shown c.args.self.now.number None) (c.settle.ensures.list.versions (seen (g.D.Disk.disk c.args.disk.now)) ∙ c.seek.ensures.list.versions (seen (g.D.Disk.disk c.args.disk.now)))) (returns-in-Ok-settle-clause-found g c told is),
)

pub returns-in-Err-settle-clause-spent : goal.returns-in-Err-settle-clause-spent
returns-in-Err-settle-clause-spent g c = λ told is one.
    snapshot_spent (g.C.Listed.cursor c.args.self.now.inner) (g.C.Listed.cursor c.seek.new.self) (g.C.Listed.cursor c.settle.new.inner) (seen (g.D.Disk.disk c.args.disk.now)) c.args.key.now (g.D.Disk.disk c.args.disk.now) (g.D.Disk.disk c.seek.new.disk) (g.D.Disk.disk c.settle.new.disk) c.seek.ensures.list c.settle.ensures.list c.seek.ensures.counts c.settle.ensures.counts
    (run_spent g.C.Listed.cursor g.C.Listed.whole g.C.Listed.steady (g.D.Disk.disk c.args.disk.now) (g.D.Disk.disk c.seek.new.disk) (g.D.Disk.disk c.settle.new.disk) c.seek.ensures.counts.tells c.seek.ensures.same c.seek.new.self c.settle.new.inner c.args.key.now (c.in-Err-settle.ensures.spent c.args.key.now)
    told (c.seek.ensures.whole told is) (c.in-Ok.ensures.steady told is) (c.seek.ensures.list.distinct (seen (g.D.Disk.disk c.args.disk.now)) ∙ one) c.in-Ok.ensures.sought)

pub returns-in-Err-clause-anew : goal.returns-in-Err-clause-anew
returns-in-Err-clause-anew g c = λ told is one anew. snapshot_end c.args.self.now.number false (g.C.Listed.cursor c.seek.new.self) (seen (g.D.Disk.disk c.args.disk.now)) c.args.key.now (c.in-Err.ensures.anew told is one anew)

pub returns-in-Err-settle-clause-anew : goal.returns-in-Err-settle-clause-anew
returns-in-Err-settle-clause-anew g c = λ told is one anew.
    snapshot_end c.args.self.now.number false (g.C.Listed.cursor c.settle.new.inner) (seen (g.D.Disk.disk c.args.disk.now)) c.args.key.now
    (run_spent g.C.Listed.cursor g.C.Listed.whole g.C.Listed.steady (g.D.Disk.disk c.args.disk.now) (g.D.Disk.disk c.seek.new.disk) (g.D.Disk.disk c.settle.new.disk) c.seek.ensures.counts.tells c.seek.ensures.same c.seek.new.self c.settle.new.inner c.args.key.now (c.in-Err-settle.ensures.spent c.args.key.now)
    told (c.seek.ensures.whole told is) (c.in-Ok.ensures.steady told is) (c.seek.ensures.list.distinct (seen (g.D.Disk.disk c.args.disk.now)) ∙ one) c.in-Ok.ensures.sought)
