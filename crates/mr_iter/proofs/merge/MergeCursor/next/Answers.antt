use Rattle.std.proofs.Common.{◌∙◌, map, set, length-set, refl, arith}
use Rattle.mr_base.specs.Disk.{Tells, seen}
use Rattle.mr_base.proofs.Moments.{same_start}
use Rattle.mr_iter.specs.Children.{AnyOf, KeepsChild}
use Rattle.mr_iter.specs.Versions.{version_cmp, merged, is_strict}
use Rattle.mr_iter.specs.Cursors.{CursorState}
use Rattle.mr_iter.specs.Merging.{lists}
use Rattle.mr_iter.specs.Places.{and_split}
use Rattle.std.specs.List.{list_all}
use Rattle.mr_iter.proofs.Spent.{merge_within_end, within_end, distinct_at}
use Rattle.mr_iter.proofs.Steps.{zipped-set, each-of, any-of, any-set}
use Rattle.mr_iter.proofs.SeekLaws.{kept_still, stop_since}
use Rattle.mr_iter.proofs.ChildLaws.{order_split, first_below, first_live}
use Rattle.mr_iter.proofs.MergeSteps.{kept_list, kept_lists, next_left, first_version, kept_whole, kept_direction, empty_queue, next_queue, next_others, next_full, next_counts, next_steps, next_moved}
use Rattle.mr_iter.proofs.Steady.{next_sought, merge_moved_steady, sought_at, direction_at}
use Rattle.mr_iter.proofs.merge.MergeCursor.next.Goals as goal

pub index_mut-requires : goal.index_mut-requires
index_mut-requires g c =
    let lt = (first_below g.C.Listed.cursor c.args.self.now.children.items c.args.self.now.order.items c.remove-j.result c.requires c.remove-j.ensures.value) in omega (arith, c.args.self.now.children.ok.0, lt)

pub next-requires : goal.next-requires
next-requires g c =
    first_live g.C.Listed.cursor c.args.self.now.children.items c.args.self.now.order.items c.remove-j.result c.index_mut.result.now c.requires c.remove-j.ensures.value c.index_mut.ensures.value

pub put_if_live-requires-clause-within : goal.put_if_live-requires-clause-within
put_if_live-requires-clause-within g c =
    rw c.deref.ensures.value (let lt = (first_below g.C.Listed.cursor c.args.self.now.children.items c.args.self.now.order.items c.remove-j.result c.requires c.remove-j.ensures.value) in simp length-set lt)

pub put_if_live-requires-clause-queue : goal.put_if_live-requires-clause-queue
put_if_live-requires-clause-queue g c =
    rw c.deref.ensures.value (next_queue g.C.Listed.cursor c.args.self.now.direction c.args.self.now.children.items c.args.self.now.order.items c.remove-j.new.self.items c.remove-j.result c.index_mut.result.now c.next.new.self (rw c.remove-j.ensures.items (order_split (map g.C.Listed.cursor c.args.self.now.children.items) c.args.self.now.order.items c.remove-j.result c.requires c.remove-j.ensures.value)) (first_below g.C.Listed.cursor c.args.self.now.children.items c.args.self.now.order.items c.remove-j.result c.requires c.remove-j.ensures.value) c.index_mut.ensures.value c.args.self.now.queue)

pub put_if_live-requires-clause-new : goal.put_if_live-requires-clause-new
put_if_live-requires-clause-new g c =
    next_others g.C.Listed.cursor c.args.self.now.direction c.args.self.now.children.items c.args.self.now.order.items c.remove-j.new.self.items c.remove-j.result c.index_mut.result.now c.next.new.self (rw c.remove-j.ensures.items (order_split (map g.C.Listed.cursor c.args.self.now.children.items) c.args.self.now.order.items c.remove-j.result c.requires c.remove-j.ensures.value)) (first_below g.C.Listed.cursor c.args.self.now.children.items c.args.self.now.order.items c.remove-j.result c.requires c.remove-j.ensures.value) c.index_mut.ensures.value c.args.self.now.queue

pub returns-in-Err-clause-list : goal.returns-in-Err-clause-list
returns-in-Err-clause-list g c =
    kept_list g.C.Listed.cursor g.C.Listed.whole (seen (g.D.Disk.disk c.args.disk.now)) (Tells (g.D.Disk.disk c.args.disk.now)) c.args.self.now.direction c.args.self.now.children.items (set c.args.self.now.children.items c.remove-j.result c.next.new.self) c.args.self.now.order.items c.clear.new.self.items (zipped-set (KeepsChild g.C.Listed.cursor g.C.Listed.whole (seen (g.D.Disk.disk c.args.disk.now)) (Tells (g.D.Disk.disk c.args.disk.now))) (kept_still g.C.Listed.cursor g.C.Listed.whole (g.D.Disk.disk c.args.disk.now)) c.args.self.now.children.items c.remove-j.result c.index_mut.result.now c.next.new.self c.index_mut.ensures.value (record { list = c.next.ensures.list; stays_whole = c.next.ensures.whole }))

pub returns-in-Err-clause-counts : goal.returns-in-Err-clause-counts
returns-in-Err-clause-counts g c =
    next_counts g.C.Listed.cursor c.args.self.now.direction c.args.self.now.children.items c.args.self.now.order.items c.remove-j.new.self.items c.remove-j.result c.index_mut.result.now c.next.new.self (rw c.remove-j.ensures.items (order_split (map g.C.Listed.cursor c.args.self.now.children.items) c.args.self.now.order.items c.remove-j.result c.requires c.remove-j.ensures.value)) (first_below g.C.Listed.cursor c.args.self.now.children.items c.args.self.now.order.items c.remove-j.result c.requires c.remove-j.ensures.value) c.index_mut.ensures.value c.clear.new.self.items (g.D.Disk.disk c.args.disk.now) (g.D.Disk.disk c.next.new.disk) c.next.ensures.counts

pub returns-in-Err-clause-whole : goal.returns-in-Err-clause-whole
returns-in-Err-clause-whole g c =
    λ told is. kept_whole g.C.Listed.cursor g.C.Listed.whole (seen (g.D.Disk.disk c.args.disk.now)) (Tells (g.D.Disk.disk c.args.disk.now)) c.args.self.now.direction c.args.self.now.children.items (set c.args.self.now.children.items c.remove-j.result c.next.new.self) (zipped-set (KeepsChild g.C.Listed.cursor g.C.Listed.whole (seen (g.D.Disk.disk c.args.disk.now)) (Tells (g.D.Disk.disk c.args.disk.now))) (kept_still g.C.Listed.cursor g.C.Listed.whole (g.D.Disk.disk c.args.disk.now)) c.args.self.now.children.items c.remove-j.result c.index_mut.result.now c.next.new.self c.index_mut.ensures.value (record { list = c.next.ensures.list; stays_whole = c.next.ensures.whole })) told is

pub returns-in-Ok-put_if_live-clause-list : goal.returns-in-Ok-put_if_live-clause-list
returns-in-Ok-put_if_live-clause-list g c =
    kept_list g.C.Listed.cursor g.C.Listed.whole (seen (g.D.Disk.disk c.args.disk.now)) (Tells (g.D.Disk.disk c.args.disk.now)) c.args.self.now.direction c.args.self.now.children.items (set c.args.self.now.children.items c.remove-j.result c.next.new.self) c.args.self.now.order.items c.put_if_live.new.order.items (zipped-set (KeepsChild g.C.Listed.cursor g.C.Listed.whole (seen (g.D.Disk.disk c.args.disk.now)) (Tells (g.D.Disk.disk c.args.disk.now))) (kept_still g.C.Listed.cursor g.C.Listed.whole (g.D.Disk.disk c.args.disk.now)) c.args.self.now.children.items c.remove-j.result c.index_mut.result.now c.next.new.self c.index_mut.ensures.value (record { list = c.next.ensures.list; stays_whole = c.next.ensures.whole }))

pub returns-in-Ok-put_if_live-clause-counts : goal.returns-in-Ok-put_if_live-clause-counts
returns-in-Ok-put_if_live-clause-counts g c =
    next_counts g.C.Listed.cursor c.args.self.now.direction c.args.self.now.children.items c.args.self.now.order.items c.remove-j.new.self.items c.remove-j.result c.index_mut.result.now c.next.new.self (rw c.remove-j.ensures.items (order_split (map g.C.Listed.cursor c.args.self.now.children.items) c.args.self.now.order.items c.remove-j.result c.requires c.remove-j.ensures.value)) (first_below g.C.Listed.cursor c.args.self.now.children.items c.args.self.now.order.items c.remove-j.result c.requires c.remove-j.ensures.value) c.index_mut.ensures.value c.put_if_live.new.order.items (g.D.Disk.disk c.args.disk.now) (g.D.Disk.disk c.next.new.disk) c.next.ensures.counts

pub returns-in-Ok-put_if_live-clause-whole : goal.returns-in-Ok-put_if_live-clause-whole
returns-in-Ok-put_if_live-clause-whole g c =
    λ told is. kept_whole g.C.Listed.cursor g.C.Listed.whole (seen (g.D.Disk.disk c.args.disk.now)) (Tells (g.D.Disk.disk c.args.disk.now)) c.args.self.now.direction c.args.self.now.children.items (set c.args.self.now.children.items c.remove-j.result c.next.new.self) (zipped-set (KeepsChild g.C.Listed.cursor g.C.Listed.whole (seen (g.D.Disk.disk c.args.disk.now)) (Tells (g.D.Disk.disk c.args.disk.now))) (kept_still g.C.Listed.cursor g.C.Listed.whole (g.D.Disk.disk c.args.disk.now)) c.args.self.now.children.items c.remove-j.result c.index_mut.result.now c.next.new.self c.index_mut.ensures.value (record { list = c.next.ensures.list; stays_whole = c.next.ensures.whole })) told is

pub returns-in-Err-put_if_live-clause-list : goal.returns-in-Err-put_if_live-clause-list
returns-in-Err-put_if_live-clause-list g c =
    kept_list g.C.Listed.cursor g.C.Listed.whole (seen (g.D.Disk.disk c.args.disk.now)) (Tells (g.D.Disk.disk c.args.disk.now)) c.args.self.now.direction c.args.self.now.children.items (set c.args.self.now.children.items c.remove-j.result c.next.new.self) c.args.self.now.order.items c.clear-in-Err-put_if_live.new.self.items (zipped-set (KeepsChild g.C.Listed.cursor g.C.Listed.whole (seen (g.D.Disk.disk c.args.disk.now)) (Tells (g.D.Disk.disk c.args.disk.now))) (kept_still g.C.Listed.cursor g.C.Listed.whole (g.D.Disk.disk c.args.disk.now)) c.args.self.now.children.items c.remove-j.result c.index_mut.result.now c.next.new.self c.index_mut.ensures.value (record { list = c.next.ensures.list; stays_whole = c.next.ensures.whole }))

pub returns-in-Err-put_if_live-clause-counts : goal.returns-in-Err-put_if_live-clause-counts
returns-in-Err-put_if_live-clause-counts g c =
    next_counts g.C.Listed.cursor c.args.self.now.direction c.args.self.now.children.items c.args.self.now.order.items c.remove-j.new.self.items c.remove-j.result c.index_mut.result.now c.next.new.self (rw c.remove-j.ensures.items (order_split (map g.C.Listed.cursor c.args.self.now.children.items) c.args.self.now.order.items c.remove-j.result c.requires c.remove-j.ensures.value)) (first_below g.C.Listed.cursor c.args.self.now.children.items c.args.self.now.order.items c.remove-j.result c.requires c.remove-j.ensures.value) c.index_mut.ensures.value c.clear-in-Err-put_if_live.new.self.items (g.D.Disk.disk c.args.disk.now) (g.D.Disk.disk c.next.new.disk) c.next.ensures.counts

pub returns-in-Err-put_if_live-clause-whole : goal.returns-in-Err-put_if_live-clause-whole
returns-in-Err-put_if_live-clause-whole g c =
    λ told is. kept_whole g.C.Listed.cursor g.C.Listed.whole (seen (g.D.Disk.disk c.args.disk.now)) (Tells (g.D.Disk.disk c.args.disk.now)) c.args.self.now.direction c.args.self.now.children.items (set c.args.self.now.children.items c.remove-j.result c.next.new.self) (zipped-set (KeepsChild g.C.Listed.cursor g.C.Listed.whole (seen (g.D.Disk.disk c.args.disk.now)) (Tells (g.D.Disk.disk c.args.disk.now))) (kept_still g.C.Listed.cursor g.C.Listed.whole (g.D.Disk.disk c.args.disk.now)) c.args.self.now.children.items c.remove-j.result c.index_mut.result.now c.next.new.self c.index_mut.ensures.value (record { list = c.next.ensures.list; stays_whole = c.next.ensures.whole })) told is

pub invariant_of-self : goal.invariant_of-self
invariant_of-self g c =
    record { one_direction = kept_direction g.C.Listed.cursor g.C.Listed.whole (seen (g.D.Disk.disk c.args.disk.now)) (Tells (g.D.Disk.disk c.args.disk.now)) c.args.self.now.direction c.args.self.now.children.items (set c.args.self.now.children.items c.remove-j.result c.next.new.self) (zipped-set (KeepsChild g.C.Listed.cursor g.C.Listed.whole (seen (g.D.Disk.disk c.args.disk.now)) (Tells (g.D.Disk.disk c.args.disk.now))) (kept_still g.C.Listed.cursor g.C.Listed.whole (g.D.Disk.disk c.args.disk.now)) c.args.self.now.children.items c.remove-j.result c.index_mut.result.now c.next.new.self c.index_mut.ensures.value (record { list = c.next.ensures.list; stays_whole = c.next.ensures.whole })) c.args.self.now.one_direction; queue = empty_queue c.args.self.now.direction (map g.C.Listed.cursor (set c.args.self.now.children.items c.remove-j.result c.next.new.self)) c.clear.new.self.items c.clear.ensures.items }

pub invariant_of-self-in-Err-put_if_live : goal.invariant_of-self-in-Err-put_if_live
invariant_of-self-in-Err-put_if_live g c =
    record { one_direction = kept_direction g.C.Listed.cursor g.C.Listed.whole (seen (g.D.Disk.disk c.args.disk.now)) (Tells (g.D.Disk.disk c.args.disk.now)) c.args.self.now.direction c.args.self.now.children.items (set c.args.self.now.children.items c.remove-j.result c.next.new.self) (zipped-set (KeepsChild g.C.Listed.cursor g.C.Listed.whole (seen (g.D.Disk.disk c.args.disk.now)) (Tells (g.D.Disk.disk c.args.disk.now))) (kept_still g.C.Listed.cursor g.C.Listed.whole (g.D.Disk.disk c.args.disk.now)) c.args.self.now.children.items c.remove-j.result c.index_mut.result.now c.next.new.self c.index_mut.ensures.value (record { list = c.next.ensures.list; stays_whole = c.next.ensures.whole })) c.args.self.now.one_direction; queue = empty_queue c.args.self.now.direction (map g.C.Listed.cursor (set c.args.self.now.children.items c.remove-j.result c.next.new.self)) c.clear-in-Err-put_if_live.new.self.items c.clear-in-Err-put_if_live.ensures.items }

pub invariant_of-self-in-Ok-put_if_live : goal.invariant_of-self-in-Ok-put_if_live
invariant_of-self-in-Ok-put_if_live g c =
    record { one_direction = kept_direction g.C.Listed.cursor g.C.Listed.whole (seen (g.D.Disk.disk c.args.disk.now)) (Tells (g.D.Disk.disk c.args.disk.now)) c.args.self.now.direction c.args.self.now.children.items (set c.args.self.now.children.items c.remove-j.result c.next.new.self) (zipped-set (KeepsChild g.C.Listed.cursor g.C.Listed.whole (seen (g.D.Disk.disk c.args.disk.now)) (Tells (g.D.Disk.disk c.args.disk.now))) (kept_still g.C.Listed.cursor g.C.Listed.whole (g.D.Disk.disk c.args.disk.now)) c.args.self.now.children.items c.remove-j.result c.index_mut.result.now c.next.new.self c.index_mut.ensures.value (record { list = c.next.ensures.list; stays_whole = c.next.ensures.whole })) c.args.self.now.one_direction; queue = next_full g.C.Listed.cursor c.args.self.now.direction c.args.self.now.children.items c.args.self.now.order.items c.remove-j.new.self.items c.remove-j.result c.index_mut.result.now c.next.new.self (rw c.remove-j.ensures.items (order_split (map g.C.Listed.cursor c.args.self.now.children.items) c.args.self.now.order.items c.remove-j.result c.requires c.remove-j.ensures.value)) (first_below g.C.Listed.cursor c.args.self.now.children.items c.args.self.now.order.items c.remove-j.result c.requires c.remove-j.ensures.value) c.index_mut.ensures.value c.put_if_live.new.order.items c.args.self.now.queue (rw (← c.deref.ensures.value) c.in-Ok-put_if_live.ensures.put) (rw (← c.deref.ensures.value) c.in-Ok-put_if_live.ensures.queue) }

pub returns-in-Ok-put_if_live-clause-steps : goal.returns-in-Ok-put_if_live-clause-steps
returns-in-Ok-put_if_live-clause-steps g c =
    next_steps g.C.Listed.cursor c.args.self.now.direction c.args.self.now.children.items c.args.self.now.order.items c.remove-j.new.self.items c.remove-j.result c.index_mut.result.now c.next.new.self (rw c.remove-j.ensures.items (order_split (map g.C.Listed.cursor c.args.self.now.children.items) c.args.self.now.order.items c.remove-j.result c.requires c.remove-j.ensures.value)) (first_below g.C.Listed.cursor c.args.self.now.children.items c.args.self.now.order.items c.remove-j.result c.requires c.remove-j.ensures.value) c.index_mut.ensures.value c.in-Ok.ensures.steps

pub returns-in-Ok-put_if_live-clause-moved : goal.returns-in-Ok-put_if_live-clause-moved
returns-in-Ok-put_if_live-clause-moved g c =
    λ told is. next_moved g.C.Listed.cursor c.args.self.now.direction c.args.self.now.children.items c.args.self.now.order.items c.remove-j.new.self.items c.remove-j.result c.index_mut.result.now c.next.new.self (rw c.remove-j.ensures.items (order_split (map g.C.Listed.cursor c.args.self.now.children.items) c.args.self.now.order.items c.remove-j.result c.requires c.remove-j.ensures.value)) (first_below g.C.Listed.cursor c.args.self.now.children.items c.args.self.now.order.items c.remove-j.result c.requires c.remove-j.ensures.value) c.index_mut.ensures.value g.C.Listed.whole (seen (g.D.Disk.disk c.args.disk.now)) (Tells (g.D.Disk.disk c.args.disk.now)) g.met.C.Listed.in_order c.put_if_live.new.order.items c.args.self.now.one_direction c.args.self.now.queue (rw (← c.deref.ensures.value) c.in-Ok-put_if_live.ensures.put) (rw (← c.deref.ensures.value) c.in-Ok-put_if_live.ensures.queue) (zipped-set (KeepsChild g.C.Listed.cursor g.C.Listed.whole (seen (g.D.Disk.disk c.args.disk.now)) (Tells (g.D.Disk.disk c.args.disk.now))) (kept_still g.C.Listed.cursor g.C.Listed.whole (g.D.Disk.disk c.args.disk.now)) c.args.self.now.children.items c.remove-j.result c.index_mut.result.now c.next.new.self c.index_mut.ensures.value (record { list = c.next.ensures.list; stays_whole = c.next.ensures.whole })) told is (c.in-Ok.ensures.moved told (each-of (λ x. g.C.Listed.whole x (seen (g.D.Disk.disk c.args.disk.now))) c.args.self.now.children.items c.remove-j.result c.index_mut.result.now (first_below g.C.Listed.cursor c.args.self.now.children.items c.args.self.now.order.items c.remove-j.result c.requires c.remove-j.ensures.value) c.index_mut.ensures.value is))

pub returns-in-Err-clause-stops : goal.returns-in-Err-clause-stops
returns-in-Err-clause-stops g c =
    stop_since (g.D.Disk.disk c.args.disk.now) (g.D.Disk.disk c.args.disk.now) (g.D.Disk.disk c.next.new.disk) refl (λ _. same_start (g.D.Disk.disk c.args.disk.now)) (omega arith)
    (g.C.Listed.offends c.index_mut.result.now) (λ image file at. AnyOf (λ x. g.C.Listed.offends x image file at) c.args.self.now.children.items)
    (λ image file at here. any-of (λ x. g.C.Listed.offends x image file at) c.args.self.now.children.items c.remove-j.result c.index_mut.result.now (first_below g.C.Listed.cursor c.args.self.now.children.items c.args.self.now.order.items c.remove-j.result c.requires c.remove-j.ensures.value) c.index_mut.ensures.value here) c.in-Err.stop c.in-Err.ensures.stops

pub returns-in-Err-clause-offends : goal.returns-in-Err-clause-offends
returns-in-Err-clause-offends g c = λ image file at any.
    any-set (λ x. g.C.Listed.offends x image file at) c.args.self.now.children.items c.remove-j.result c.index_mut.result.now c.next.new.self (first_below g.C.Listed.cursor c.args.self.now.children.items c.args.self.now.order.items c.remove-j.result c.requires c.remove-j.ensures.value) c.index_mut.ensures.value (c.next.ensures.offends image file at) any

pub returns-in-Ok-put_if_live-clause-offends : goal.returns-in-Ok-put_if_live-clause-offends
returns-in-Ok-put_if_live-clause-offends g c = λ image file at any.
    any-set (λ x. g.C.Listed.offends x image file at) c.args.self.now.children.items c.remove-j.result c.index_mut.result.now c.next.new.self (first_below g.C.Listed.cursor c.args.self.now.children.items c.args.self.now.order.items c.remove-j.result c.requires c.remove-j.ensures.value) c.index_mut.ensures.value (c.next.ensures.offends image file at) any

pub returns-in-Err-put_if_live-clause-offends : goal.returns-in-Err-put_if_live-clause-offends
returns-in-Err-put_if_live-clause-offends g c = λ image file at any.
    any-set (λ x. g.C.Listed.offends x image file at) c.args.self.now.children.items c.remove-j.result c.index_mut.result.now c.next.new.self (first_below g.C.Listed.cursor c.args.self.now.children.items c.args.self.now.order.items c.remove-j.result c.requires c.remove-j.ensures.value) c.index_mut.ensures.value (c.next.ensures.offends image file at) any

pub returns-in-Ok-put_if_live-clause-sought : goal.returns-in-Ok-put_if_live-clause-sought
returns-in-Ok-put_if_live-clause-sought g c = λ k was.
    next_sought g.C.Listed.cursor g.C.Listed.whole g.C.Listed.steady (seen (g.D.Disk.disk c.args.disk.now)) (Tells (g.D.Disk.disk c.args.disk.now)) c.args.self.now.direction k c.args.self.now.children.items c.remove-j.result c.next.new.self was (c.in-Ok.ensures.sought k (sought_at g.C.Listed.cursor k c.args.self.now.children.items c.remove-j.result c.index_mut.result.now c.index_mut.ensures.value (first_below g.C.Listed.cursor c.args.self.now.children.items c.args.self.now.order.items c.remove-j.result c.requires c.remove-j.ensures.value) was))

pub returns-in-Ok-put_if_live-clause-steady : goal.returns-in-Ok-put_if_live-clause-steady
returns-in-Ok-put_if_live-clause-steady g c = λ told is stands.
    let v = first_version g.C.Listed.cursor c.args.self.now.direction c.args.self.now.children.items c.args.self.now.order.items c.remove-j.new.self.items c.remove-j.result c.index_mut.result.now c.next.new.self (rw c.remove-j.ensures.items (order_split (map g.C.Listed.cursor c.args.self.now.children.items) c.args.self.now.order.items c.remove-j.result c.requires c.remove-j.ensures.value)) (first_below g.C.Listed.cursor c.args.self.now.children.items c.args.self.now.order.items c.remove-j.result c.requires c.remove-j.ensures.value) c.index_mut.ensures.value c.requires in
    merge_moved_steady g.C.Listed.cursor g.C.Listed.whole g.C.Listed.steady (seen (g.D.Disk.disk c.args.disk.now)) (Tells (g.D.Disk.disk c.args.disk.now)) c.args.self.now.direction c.args.self.now.children.items c.args.self.now.order.items c.put_if_live.new.order.items c.remove-j.result c.index_mut.result.now c.next.new.self c.index_mut.ensures.value (first_below g.C.Listed.cursor c.args.self.now.children.items c.args.self.now.order.items c.remove-j.result c.requires c.remove-j.ensures.value) v.0 v.1 v.2 c.next.ensures.list
    (direction_at g.C.Listed.cursor c.args.self.now.direction c.args.self.now.children.items c.remove-j.result c.index_mut.result.now c.index_mut.ensures.value (first_below g.C.Listed.cursor c.args.self.now.children.items c.args.self.now.order.items c.remove-j.result c.requires c.remove-j.ensures.value) c.args.self.now.one_direction)
    (g.met.C.Listed.in_order c.index_mut.result.now (seen (g.D.Disk.disk c.args.disk.now)) (each-of (λ x. g.C.Listed.whole x (seen (g.D.Disk.disk c.args.disk.now))) c.args.self.now.children.items c.remove-j.result c.index_mut.result.now (first_below g.C.Listed.cursor c.args.self.now.children.items c.args.self.now.order.items c.remove-j.result c.requires c.remove-j.ensures.value) c.index_mut.ensures.value is)).1
    (g.met.C.Listed.in_place c.index_mut.result.now (seen (g.D.Disk.disk c.args.disk.now)) (each-of (λ x. g.C.Listed.whole x (seen (g.D.Disk.disk c.args.disk.now))) c.args.self.now.children.items c.remove-j.result c.index_mut.result.now (first_below g.C.Listed.cursor c.args.self.now.children.items c.args.self.now.order.items c.remove-j.result c.requires c.remove-j.ensures.value) c.index_mut.ensures.value is) (each-of (λ x. g.C.Listed.steady x (seen (g.D.Disk.disk c.args.disk.now))) c.args.self.now.children.items c.remove-j.result c.index_mut.result.now (first_below g.C.Listed.cursor c.args.self.now.children.items c.args.self.now.order.items c.remove-j.result c.requires c.remove-j.ensures.value) c.index_mut.ensures.value stands.children))
    (c.in-Ok.ensures.moved told (each-of (λ x. g.C.Listed.whole x (seen (g.D.Disk.disk c.args.disk.now))) c.args.self.now.children.items c.remove-j.result c.index_mut.result.now (first_below g.C.Listed.cursor c.args.self.now.children.items c.args.self.now.order.items c.remove-j.result c.requires c.remove-j.ensures.value) c.index_mut.ensures.value is)) (c.in-Ok.ensures.steady told (each-of (λ x. g.C.Listed.whole x (seen (g.D.Disk.disk c.args.disk.now))) c.args.self.now.children.items c.remove-j.result c.index_mut.result.now (first_below g.C.Listed.cursor c.args.self.now.children.items c.args.self.now.order.items c.remove-j.result c.requires c.remove-j.ensures.value) c.index_mut.ensures.value is) (each-of (λ x. g.C.Listed.steady x (seen (g.D.Disk.disk c.args.disk.now))) c.args.self.now.children.items c.remove-j.result c.index_mut.result.now (first_below g.C.Listed.cursor c.args.self.now.children.items c.args.self.now.order.items c.remove-j.result c.requires c.remove-j.ensures.value) c.index_mut.ensures.value stands.children)) stands
    (kept_lists g.C.Listed.cursor g.C.Listed.whole (seen (g.D.Disk.disk c.args.disk.now)) (Tells (g.D.Disk.disk c.args.disk.now)) c.args.self.now.direction c.args.self.now.children.items (set c.args.self.now.children.items c.remove-j.result c.next.new.self) (zipped-set (KeepsChild g.C.Listed.cursor g.C.Listed.whole (seen (g.D.Disk.disk c.args.disk.now)) (Tells (g.D.Disk.disk c.args.disk.now))) (kept_still g.C.Listed.cursor g.C.Listed.whole (g.D.Disk.disk c.args.disk.now)) c.args.self.now.children.items c.remove-j.result c.index_mut.result.now c.next.new.self c.index_mut.ensures.value (record { list = c.next.ensures.list; stays_whole = c.next.ensures.whole })) (seen (g.D.Disk.disk c.args.disk.now)))
    (next_moved g.C.Listed.cursor c.args.self.now.direction c.args.self.now.children.items c.args.self.now.order.items c.remove-j.new.self.items c.remove-j.result c.index_mut.result.now c.next.new.self (rw c.remove-j.ensures.items (order_split (map g.C.Listed.cursor c.args.self.now.children.items) c.args.self.now.order.items c.remove-j.result c.requires c.remove-j.ensures.value)) (first_below g.C.Listed.cursor c.args.self.now.children.items c.args.self.now.order.items c.remove-j.result c.requires c.remove-j.ensures.value) c.index_mut.ensures.value g.C.Listed.whole (seen (g.D.Disk.disk c.args.disk.now)) (Tells (g.D.Disk.disk c.args.disk.now)) g.met.C.Listed.in_order c.put_if_live.new.order.items c.args.self.now.one_direction c.args.self.now.queue (rw (← c.deref.ensures.value) c.in-Ok-put_if_live.ensures.put) (rw (← c.deref.ensures.value) c.in-Ok-put_if_live.ensures.queue) (zipped-set (KeepsChild g.C.Listed.cursor g.C.Listed.whole (seen (g.D.Disk.disk c.args.disk.now)) (Tells (g.D.Disk.disk c.args.disk.now))) (kept_still g.C.Listed.cursor g.C.Listed.whole (g.D.Disk.disk c.args.disk.now)) c.args.self.now.children.items c.remove-j.result c.index_mut.result.now c.next.new.self c.index_mut.ensures.value (record { list = c.next.ensures.list; stays_whole = c.next.ensures.whole })) told is (c.in-Ok.ensures.moved told (each-of (λ x. g.C.Listed.whole x (seen (g.D.Disk.disk c.args.disk.now))) c.args.self.now.children.items c.remove-j.result c.index_mut.result.now (first_below g.C.Listed.cursor c.args.self.now.children.items c.args.self.now.order.items c.remove-j.result c.requires c.remove-j.ensures.value) c.index_mut.ensures.value is)))
    (next_left g.C.Listed.cursor c.args.self.now.direction c.args.self.now.children.items c.args.self.now.order.items c.remove-j.new.self.items c.remove-j.result c.index_mut.result.now c.next.new.self (rw c.remove-j.ensures.items (order_split (map g.C.Listed.cursor c.args.self.now.children.items) c.args.self.now.order.items c.remove-j.result c.requires c.remove-j.ensures.value)) (first_below g.C.Listed.cursor c.args.self.now.children.items c.args.self.now.order.items c.remove-j.result c.requires c.remove-j.ensures.value) c.index_mut.ensures.value g.C.Listed.whole (seen (g.D.Disk.disk c.args.disk.now)) (Tells (g.D.Disk.disk c.args.disk.now)) g.met.C.Listed.in_order c.put_if_live.new.order.items c.args.self.now.one_direction c.args.self.now.queue (rw (← c.deref.ensures.value) c.in-Ok-put_if_live.ensures.put) (rw (← c.deref.ensures.value) c.in-Ok-put_if_live.ensures.queue) (zipped-set (KeepsChild g.C.Listed.cursor g.C.Listed.whole (seen (g.D.Disk.disk c.args.disk.now)) (Tells (g.D.Disk.disk c.args.disk.now))) (kept_still g.C.Listed.cursor g.C.Listed.whole (g.D.Disk.disk c.args.disk.now)) c.args.self.now.children.items c.remove-j.result c.index_mut.result.now c.next.new.self c.index_mut.ensures.value (record { list = c.next.ensures.list; stays_whole = c.next.ensures.whole })) told is)

pub returns-in-Err-clause-spent : goal.returns-in-Err-clause-spent
returns-in-Err-clause-spent g c = λ k told is stands one key.
    merge_within_end g.C.Listed.cursor g.C.Listed.whole g.C.Listed.steady g.met.C.Listed.costs g.met.C.Listed.to_end c.args.self.now.direction (seen (g.D.Disk.disk c.args.disk.now)) k c.args.self.now.children.items c.args.self.now.order.items c.clear.new.self.items c.remove-j.result c.next.new.self
    (c.in-Err.ensures.spent k told (each-of (λ x. g.C.Listed.whole x (seen (g.D.Disk.disk c.args.disk.now))) c.args.self.now.children.items c.remove-j.result c.index_mut.result.now (first_below g.C.Listed.cursor c.args.self.now.children.items c.args.self.now.order.items c.remove-j.result c.requires c.remove-j.ensures.value) c.index_mut.ensures.value is)
    (each-of (λ x. g.C.Listed.steady x (seen (g.D.Disk.disk c.args.disk.now))) c.args.self.now.children.items c.remove-j.result c.index_mut.result.now (first_below g.C.Listed.cursor c.args.self.now.children.items c.args.self.now.order.items c.remove-j.result c.requires c.remove-j.ensures.value) c.index_mut.ensures.value stands.children)
    (distinct_at g.C.Listed.cursor (seen (g.D.Disk.disk c.args.disk.now)) c.args.self.now.children.items c.remove-j.result c.index_mut.result.now c.index_mut.ensures.value (first_below g.C.Listed.cursor c.args.self.now.children.items c.args.self.now.order.items c.remove-j.result c.requires c.remove-j.ensures.value) (and_split (list_all (λ (s : CursorState). s.distinct (seen (g.D.Disk.disk c.args.disk.now))) (map g.C.Listed.cursor c.args.self.now.children.items)) (is_strict c.args.self.now.direction (merged (version_cmp c.args.self.now.direction) (lists (map g.C.Listed.cursor c.args.self.now.children.items) (seen (g.D.Disk.disk c.args.disk.now))))) one).0)
    (sought_at g.C.Listed.cursor k c.args.self.now.children.items c.remove-j.result c.index_mut.result.now c.index_mut.ensures.value (first_below g.C.Listed.cursor c.args.self.now.children.items c.args.self.now.order.items c.remove-j.result c.requires c.remove-j.ensures.value) key))
    is stands.children one key

pub returns-in-Err-put_if_live-clause-spent : goal.returns-in-Err-put_if_live-clause-spent
returns-in-Err-put_if_live-clause-spent g c = λ k told is stands one key.
    merge_within_end g.C.Listed.cursor g.C.Listed.whole g.C.Listed.steady g.met.C.Listed.costs g.met.C.Listed.to_end c.args.self.now.direction (seen (g.D.Disk.disk c.args.disk.now)) k c.args.self.now.children.items c.args.self.now.order.items c.clear-in-Err-put_if_live.new.self.items c.remove-j.result c.next.new.self
    (within_end g.C.Listed.cursor g.C.Listed.whole g.C.Listed.steady g.met.C.Listed.costs g.met.C.Listed.to_end c.next.new.self (seen (g.D.Disk.disk c.args.disk.now)) k (c.next.ensures.whole told (each-of (λ x. g.C.Listed.whole x (seen (g.D.Disk.disk c.args.disk.now))) c.args.self.now.children.items c.remove-j.result c.index_mut.result.now (first_below g.C.Listed.cursor c.args.self.now.children.items c.args.self.now.order.items c.remove-j.result c.requires c.remove-j.ensures.value) c.index_mut.ensures.value is))
    (c.in-Ok.ensures.steady told (each-of (λ x. g.C.Listed.whole x (seen (g.D.Disk.disk c.args.disk.now))) c.args.self.now.children.items c.remove-j.result c.index_mut.result.now (first_below g.C.Listed.cursor c.args.self.now.children.items c.args.self.now.order.items c.remove-j.result c.requires c.remove-j.ensures.value) c.index_mut.ensures.value is) (each-of (λ x. g.C.Listed.steady x (seen (g.D.Disk.disk c.args.disk.now))) c.args.self.now.children.items c.remove-j.result c.index_mut.result.now (first_below g.C.Listed.cursor c.args.self.now.children.items c.args.self.now.order.items c.remove-j.result c.requires c.remove-j.ensures.value) c.index_mut.ensures.value stands.children))
    (c.next.ensures.list.distinct (seen (g.D.Disk.disk c.args.disk.now)) ∙ (distinct_at g.C.Listed.cursor (seen (g.D.Disk.disk c.args.disk.now)) c.args.self.now.children.items c.remove-j.result c.index_mut.result.now c.index_mut.ensures.value (first_below g.C.Listed.cursor c.args.self.now.children.items c.args.self.now.order.items c.remove-j.result c.requires c.remove-j.ensures.value) (and_split (list_all (λ (s : CursorState). s.distinct (seen (g.D.Disk.disk c.args.disk.now))) (map g.C.Listed.cursor c.args.self.now.children.items)) (is_strict c.args.self.now.direction (merged (version_cmp c.args.self.now.direction) (lists (map g.C.Listed.cursor c.args.self.now.children.items) (seen (g.D.Disk.disk c.args.disk.now))))) one).0))
    (c.in-Ok.ensures.sought k (sought_at g.C.Listed.cursor k c.args.self.now.children.items c.remove-j.result c.index_mut.result.now c.index_mut.ensures.value (first_below g.C.Listed.cursor c.args.self.now.children.items c.args.self.now.order.items c.remove-j.result c.requires c.remove-j.ensures.value) key)))
    is stands.children one key
