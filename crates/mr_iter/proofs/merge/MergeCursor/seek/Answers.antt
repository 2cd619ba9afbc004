use Rattle.std.proofs.Common.{map}
use Rattle.mr_base.specs.Disk.{Tells, seen}
use Rattle.mr_iter.specs.Cursors.{CursorState}
use Rattle.mr_iter.proofs.MergeSteps.{kept_list, kept_lists, seek_left, kept_whole, kept_direction, found_merge, empty_queue, full_queue, total-map}
use Rattle.mr_iter.specs.Versions.{version_cmp, merged, is_strict}
use Rattle.mr_iter.specs.Merging.{lists}
use Rattle.mr_iter.proofs.Spent.{merge_spent, each_distinct}
use Rattle.mr_iter.proofs.Steady.{found_sought, merge_found_steady}
use Rattle.mr_iter.proofs.merge.MergeCursor.seek.Goals as goal

pub returns-in-Err-clause-list : goal.returns-in-Err-clause-list
returns-in-Err-clause-list g c =
    kept_list g.C.Listed.cursor g.C.Listed.whole (seen (g.D.Disk.disk c.args.disk.now)) (Tells (g.D.Disk.disk c.args.disk.now)) c.args.self.now.direction c.args.self.now.children.items c.seek_all.new.children.items c.args.self.now.order.items c.clear.new.self.items c.seek_all.ensures.keeps

pub returns-in-Err-clause-whole : goal.returns-in-Err-clause-whole
returns-in-Err-clause-whole g c =
    λ told is. kept_whole g.C.Listed.cursor g.C.Listed.whole (seen (g.D.Disk.disk c.args.disk.now)) (Tells (g.D.Disk.disk c.args.disk.now)) c.args.self.now.direction c.args.self.now.children.items c.seek_all.new.children.items c.seek_all.ensures.keeps told is

pub returns-in-Err-clause-counts : goal.returns-in-Err-clause-counts
returns-in-Err-clause-counts g c =
    rw (total-map g.C.Listed.cursor (λ (s : CursorState). s.reads) c.seek_all.new.children.items, total-map g.C.Listed.cursor (λ (s : CursorState). s.asked) c.seek_all.new.children.items) c.seek_all.ensures.counts

pub returns-in-Ok-fill_queue-clause-list : goal.returns-in-Ok-fill_queue-clause-list
returns-in-Ok-fill_queue-clause-list g c =
    kept_list g.C.Listed.cursor g.C.Listed.whole (seen (g.D.Disk.disk c.args.disk.now)) (Tells (g.D.Disk.disk c.args.disk.now)) c.args.self.now.direction c.args.self.now.children.items c.seek_all.new.children.items c.args.self.now.order.items c.fill_queue.new.order.items c.seek_all.ensures.keeps

pub returns-in-Ok-fill_queue-clause-whole : goal.returns-in-Ok-fill_queue-clause-whole
returns-in-Ok-fill_queue-clause-whole g c =
    λ told is. kept_whole g.C.Listed.cursor g.C.Listed.whole (seen (g.D.Disk.disk c.args.disk.now)) (Tells (g.D.Disk.disk c.args.disk.now)) c.args.self.now.direction c.args.self.now.children.items c.seek_all.new.children.items c.seek_all.ensures.keeps told is

pub returns-in-Ok-fill_queue-clause-counts : goal.returns-in-Ok-fill_queue-clause-counts
returns-in-Ok-fill_queue-clause-counts g c =
    rw (total-map g.C.Listed.cursor (λ (s : CursorState). s.reads) c.seek_all.new.children.items, total-map g.C.Listed.cursor (λ (s : CursorState). s.asked) c.seek_all.new.children.items) c.seek_all.ensures.counts

pub returns-in-Err-fill_queue-clause-list : goal.returns-in-Err-fill_queue-clause-list
returns-in-Err-fill_queue-clause-list g c =
    kept_list g.C.Listed.cursor g.C.Listed.whole (seen (g.D.Disk.disk c.args.disk.now)) (Tells (g.D.Disk.disk c.args.disk.now)) c.args.self.now.direction c.args.self.now.children.items c.seek_all.new.children.items c.args.self.now.order.items c.clear-in-Err-fill_queue.new.self.items c.seek_all.ensures.keeps

pub returns-in-Err-fill_queue-clause-whole : goal.returns-in-Err-fill_queue-clause-whole
returns-in-Err-fill_queue-clause-whole g c =
    λ told is. kept_whole g.C.Listed.cursor g.C.Listed.whole (seen (g.D.Disk.disk c.args.disk.now)) (Tells (g.D.Disk.disk c.args.disk.now)) c.args.self.now.direction c.args.self.now.children.items c.seek_all.new.children.items c.seek_all.ensures.keeps told is

pub returns-in-Err-fill_queue-clause-counts : goal.returns-in-Err-fill_queue-clause-counts
returns-in-Err-fill_queue-clause-counts g c =
    rw (total-map g.C.Listed.cursor (λ (s : CursorState). s.reads) c.seek_all.new.children.items, total-map g.C.Listed.cursor (λ (s : CursorState). s.asked) c.seek_all.new.children.items) c.seek_all.ensures.counts

pub invariant_of-self : goal.invariant_of-self
invariant_of-self g c =
    record { one_direction = kept_direction g.C.Listed.cursor g.C.Listed.whole (seen (g.D.Disk.disk c.args.disk.now)) (Tells (g.D.Disk.disk c.args.disk.now)) c.args.self.now.direction c.args.self.now.children.items c.seek_all.new.children.items c.seek_all.ensures.keeps c.args.self.now.one_direction; queue = empty_queue c.args.self.now.direction (map g.C.Listed.cursor c.seek_all.new.children.items) c.clear.new.self.items c.clear.ensures.items }

pub invariant_of-self-in-Err-fill_queue : goal.invariant_of-self-in-Err-fill_queue
invariant_of-self-in-Err-fill_queue g c =
    record { one_direction = kept_direction g.C.Listed.cursor g.C.Listed.whole (seen (g.D.Disk.disk c.args.disk.now)) (Tells (g.D.Disk.disk c.args.disk.now)) c.args.self.now.direction c.args.self.now.children.items c.seek_all.new.children.items c.seek_all.ensures.keeps c.args.self.now.one_direction; queue = empty_queue c.args.self.now.direction (map g.C.Listed.cursor c.seek_all.new.children.items) c.clear-in-Err-fill_queue.new.self.items c.clear-in-Err-fill_queue.ensures.items }

pub invariant_of-self-in-Ok-fill_queue : goal.invariant_of-self-in-Ok-fill_queue
invariant_of-self-in-Ok-fill_queue g c =
    record { one_direction = kept_direction g.C.Listed.cursor g.C.Listed.whole (seen (g.D.Disk.disk c.args.disk.now)) (Tells (g.D.Disk.disk c.args.disk.now)) c.args.self.now.direction c.args.self.now.children.items c.seek_all.new.children.items c.seek_all.ensures.keeps c.args.self.now.one_direction; queue = full_queue g.C.Listed.cursor c.args.self.now.direction c.seek_all.new.children.items c.fill_queue.new.order.items (rw (← c.deref.ensures.value) c.in-Ok-fill_queue.ensures.queue) (rw (← c.deref.ensures.value) c.in-Ok-fill_queue.ensures.all) }

pub returns-in-Ok-fill_queue-clause-found : goal.returns-in-Ok-fill_queue-clause-found
returns-in-Ok-fill_queue-clause-found g c =
    λ told is. found_merge g.C.Listed.cursor g.C.Listed.whole (seen (g.D.Disk.disk c.args.disk.now)) (Tells (g.D.Disk.disk c.args.disk.now)) c.args.self.now.direction g.met.C.Listed.in_order g.C.Listed.steady c.args.key.now c.args.self.now.children.items c.seek_all.new.children.items c.fill_queue.new.order.items c.seek_all.ensures.keeps c.in-Ok.ensures.found c.args.self.now.one_direction (rw (← c.deref.ensures.value) c.in-Ok-fill_queue.ensures.queue) (rw (← c.deref.ensures.value) c.in-Ok-fill_queue.ensures.all) told is

pub returns-in-Ok-fill_queue-clause-sought : goal.returns-in-Ok-fill_queue-clause-sought
returns-in-Ok-fill_queue-clause-sought g c =
    found_sought g.C.Listed.cursor g.C.Listed.whole g.C.Listed.steady (seen (g.D.Disk.disk c.args.disk.now)) (Tells (g.D.Disk.disk c.args.disk.now)) c.args.self.now.direction c.args.key.now c.args.self.now.children.items c.seek_all.new.children.items c.in-Ok.ensures.found

pub returns-in-Ok-fill_queue-clause-steady : goal.returns-in-Ok-fill_queue-clause-steady
returns-in-Ok-fill_queue-clause-steady g c = λ told is.
    merge_found_steady g.C.Listed.cursor g.C.Listed.whole g.C.Listed.steady (seen (g.D.Disk.disk c.args.disk.now)) (Tells (g.D.Disk.disk c.args.disk.now)) c.args.self.now.direction c.args.key.now c.args.self.now.children.items c.seek_all.new.children.items c.fill_queue.new.order.items c.seek_all.ensures.keeps c.in-Ok.ensures.found c.args.self.now.one_direction told is
    (kept_lists g.C.Listed.cursor g.C.Listed.whole (seen (g.D.Disk.disk c.args.disk.now)) (Tells (g.D.Disk.disk c.args.disk.now)) c.args.self.now.direction c.args.self.now.children.items c.seek_all.new.children.items c.seek_all.ensures.keeps (seen (g.D.Disk.disk c.args.disk.now)))
    (found_merge g.C.Listed.cursor g.C.Listed.whole (seen (g.D.Disk.disk c.args.disk.now)) (Tells (g.D.Disk.disk c.args.disk.now)) c.args.self.now.direction g.met.C.Listed.in_order g.C.Listed.steady c.args.key.now c.args.self.now.children.items c.seek_all.new.children.items c.fill_queue.new.order.items c.seek_all.ensures.keeps c.in-Ok.ensures.found c.args.self.now.one_direction (rw (← c.deref.ensures.value) c.in-Ok-fill_queue.ensures.queue) (rw (← c.deref.ensures.value) c.in-Ok-fill_queue.ensures.all) told is)
    (seek_left g.C.Listed.cursor g.C.Listed.whole (seen (g.D.Disk.disk c.args.disk.now)) (Tells (g.D.Disk.disk c.args.disk.now)) c.args.self.now.direction g.met.C.Listed.in_order c.args.self.now.children.items c.seek_all.new.children.items c.fill_queue.new.order.items c.seek_all.ensures.keeps c.args.self.now.one_direction (rw (← c.deref.ensures.value) c.in-Ok-fill_queue.ensures.queue) (rw (← c.deref.ensures.value) c.in-Ok-fill_queue.ensures.all) told is)

pub returns-in-Err-clause-spent : goal.returns-in-Err-clause-spent
returns-in-Err-clause-spent g c = λ told is one.
    merge_spent g.C.Listed.cursor c.args.self.now.direction c.args.self.now.order.items (seen (g.D.Disk.disk c.args.disk.now)) c.args.key.now c.args.self.now.children.items (g.D.Disk.disk c.args.disk.now) (g.D.Disk.disk c.seek_all.new.disk)
    (c.seek_all.ensures.spent told is (each_distinct g.C.Listed.cursor (seen (g.D.Disk.disk c.args.disk.now)) c.args.self.now.children.items (is_strict c.args.self.now.direction (merged (version_cmp c.args.self.now.direction) (lists (map g.C.Listed.cursor c.args.self.now.children.items) (seen (g.D.Disk.disk c.args.disk.now))))) one))

pub returns-in-Err-fill_queue-clause-spent : goal.returns-in-Err-fill_queue-clause-spent
returns-in-Err-fill_queue-clause-spent g c = λ told is one.
    merge_spent g.C.Listed.cursor c.args.self.now.direction c.args.self.now.order.items (seen (g.D.Disk.disk c.args.disk.now)) c.args.key.now c.args.self.now.children.items (g.D.Disk.disk c.args.disk.now) (g.D.Disk.disk c.seek_all.new.disk)
    (c.seek_all.ensures.spent told is (each_distinct g.C.Listed.cursor (seen (g.D.Disk.disk c.args.disk.now)) c.args.self.now.children.items (is_strict c.args.self.now.direction (merged (version_cmp c.args.self.now.direction) (lists (map g.C.Listed.cursor c.args.self.now.children.items) (seen (g.D.Disk.disk c.args.disk.now))))) one))
