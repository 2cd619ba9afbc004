use Rattle.std.proofs.Common.{◌≡◌, Some, None, true, false, ◌∙◌, ap}
use Rattle.mr_iter.specs.Cursors.{left, with_current}
use Rattle.mr_base.specs.Disk.{Image, seen}
use Rattle.mr_iter.specs.Snapshots.{shown, key_of, snapshot_state}
use Rattle.mr_iter.specs.SnapshotLaws.{snapshot_moved, skip_kept, moved_place}
use Rattle.mr_iter.proofs.Runs.{run_stays, run_steady, run_image}
use Rattle.mr_iter.proofs.SeekLaws.{stop_since}
use Rattle.mr_iter.proofs.Spent.{run_spent, within_end, snapshot_end}
use Rattle.mr_iter.proofs.snapshot.AtSnapshotCursor.next.Goals as goal

pub returns-in-Ok-settle-clause-whole : goal.returns-in-Ok-settle-clause-whole
returns-in-Ok-settle-clause-whole g c =
    run_stays g.C.Listed.whole (g.D.Disk.disk c.args.disk.now) (g.D.Disk.disk c.next.new.disk) (g.D.Disk.disk c.settle.new.disk) c.args.self.now.inner c.next.new.self c.settle.new.inner c.next.ensures.counts.disk.tells c.next.ensures.same c.next.ensures.whole c.settle.ensures.whole

pub returns-in-Err-settle-clause-whole : goal.returns-in-Err-settle-clause-whole
returns-in-Err-settle-clause-whole g c =
    run_stays g.C.Listed.whole (g.D.Disk.disk c.args.disk.now) (g.D.Disk.disk c.next.new.disk) (g.D.Disk.disk c.settle.new.disk) c.args.self.now.inner c.next.new.self c.settle.new.inner c.next.ensures.counts.disk.tells c.next.ensures.same c.next.ensures.whole c.settle.ensures.whole

pub returns-in-Err-settle-clause-stops : goal.returns-in-Err-settle-clause-stops
returns-in-Err-settle-clause-stops g c =
    stop_since (g.D.Disk.disk c.args.disk.now) (g.D.Disk.disk c.next.new.disk) (g.D.Disk.disk c.settle.new.disk) c.next.ensures.counts.disk.tells c.next.ensures.same c.next.ensures.counts.disk.faults
    (g.C.Listed.offends c.next.new.self) (g.C.Listed.offends c.args.self.now.inner) c.next.ensures.offends c.in-Err-settle.stop c.in-Err-settle.ensures.stops

pub returns-in-Ok-settle-clause-offends : goal.returns-in-Ok-settle-clause-offends
returns-in-Ok-settle-clause-offends g c = λ image file at here. c.next.ensures.offends image file at (c.settle.ensures.offends image file at here)

pub returns-in-Err-settle-clause-offends : goal.returns-in-Err-settle-clause-offends
returns-in-Err-settle-clause-offends g c = λ image file at here. c.next.ensures.offends image file at (c.settle.ensures.offends image file at here)

pub returns-in-Ok-settle-clause-moved : goal.returns-in-Ok-settle-clause-moved
returns-in-Ok-settle-clause-moved g c =
    λ told is. snapshot_moved c.args.self.now.number (g.C.Listed.cursor c.args.self.now.inner) (g.C.Listed.cursor c.next.new.self) (g.C.Listed.cursor c.settle.new.inner) (Some c.extend_from_slice.new.self.items) (seen (g.D.Disk.disk c.args.disk.now)) (skip_kept c.args.self.now.placed (g.C.Listed.cursor c.args.self.now.inner).current c.extend_from_slice.new.self.items c.clear.new.self.items c.key.result.now c.requires c.in-Ok.ensures.items c.clear.ensures.items c.key.ensures) (c.in-Ok-next.ensures.moved told is)
    (run_image g.C.Listed.whole (g.D.Disk.disk c.args.disk.now) (g.D.Disk.disk c.next.new.disk) (g.D.Disk.disk c.settle.new.disk) c.args.self.now.inner c.next.new.self c.settle.new.inner c.next.ensures.counts.disk.tells c.next.ensures.same c.next.ensures.whole (λ (image : Image). shown c.args.self.now.number (Some c.extend_from_slice.new.self.items) (left (g.C.Listed.cursor c.next.new.self) image) ≡ with_current (g.C.Listed.cursor c.settle.new.inner).current (shown c.args.self.now.number (key_of (g.C.Listed.cursor c.settle.new.inner).current) ((g.C.Listed.cursor c.settle.new.inner).rest image))) c.in-Ok-settle.ensures.settled told is)

pub returns-in-Ok-settle-clause-steady : goal.returns-in-Ok-settle-clause-steady
returns-in-Ok-settle-clause-steady g c = λ told is stands. (
  run_steady g.C.Listed.whole (g.D.Disk.disk c.args.disk.now) (g.D.Disk.disk c.next.new.disk) (g.D.Disk.disk c.settle.new.disk) c.args.self.now.inner c.next.new.self c.settle.new.inner c.next.ensures.counts.disk.tells c.next.ensures.same c.next.ensures.whole g.C.Listed.steady c.in-Ok-settle.ensures.steady told is (c.in-Ok-next.ensures.steady told is stands.0),
  moved_place (snapshot_state c.args.self.now.number c.args.self.now.placed (g.C.Listed.cursor c.args.self.now.inner)) (snapshot_state c.args.self.now.number true (g.C.Listed.cursor c.settle.new.inner)) (seen (g.D.Disk.disk c.args.disk.now))
      (ap (shown c.args.self.now.number None) (c.settle.ensures.list.versions (seen (g.D.Disk.disk c.args.disk.now)) ∙ c.next.ensures.list.versions (seen (g.D.Disk.disk c.args.disk.now)))) c.requires stands.1 (returns-in-Ok-settle-clause-moved g c told is),
)

pub returns-in-Err-clause-spent : goal.returns-in-Err-clause-spent
returns-in-Err-clause-spent g c = λ k told is stands one key.
    snapshot_end c.args.self.now.number false (g.C.Listed.cursor c.args.self.now.inner) (seen (g.D.Disk.disk c.args.disk.now)) k (within_end g.C.Listed.cursor g.C.Listed.whole g.C.Listed.steady g.met.C.Listed.costs g.met.C.Listed.to_end c.args.self.now.inner (seen (g.D.Disk.disk c.args.disk.now)) k is stands.0 one key)

pub returns-in-Err-next-clause-spent : goal.returns-in-Err-next-clause-spent
returns-in-Err-next-clause-spent g c = λ k told is stands one key.
    snapshot_end c.args.self.now.number false (g.C.Listed.cursor c.next.new.self) (seen (g.D.Disk.disk c.args.disk.now)) k (c.in-Err-next.ensures.spent k told is stands.0 one key)

pub returns-in-Err-settle-clause-spent : goal.returns-in-Err-settle-clause-spent
returns-in-Err-settle-clause-spent g c = λ k told is stands one key.
    snapshot_end c.args.self.now.number false (g.C.Listed.cursor c.settle.new.inner) (seen (g.D.Disk.disk c.args.disk.now)) k
    (run_spent g.C.Listed.cursor g.C.Listed.whole g.C.Listed.steady (g.D.Disk.disk c.args.disk.now) (g.D.Disk.disk c.next.new.disk) (g.D.Disk.disk c.settle.new.disk) c.next.ensures.counts.disk.tells c.next.ensures.same c.next.new.self c.settle.new.inner k (c.in-Err-settle.ensures.spent k)
    told (c.next.ensures.whole told is) (c.in-Ok-next.ensures.steady told is stands.0) (c.next.ensures.list.distinct (seen (g.D.Disk.disk c.args.disk.now)) ∙ one) (c.in-Ok-next.ensures.sought k key))
