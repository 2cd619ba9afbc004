use Rattle.std.proofs.Common.{◌∙◌, sym, subst, arith, map, ℕ, ◌+◌, List, [], refl, true, false, get_or, set, add-one, inl, inr, IsTrue}
use Rattle.mr_base.proofs.Moments.{same_start}
use Rattle.mr_iter.specs.Children.{AnyOf}
use Rattle.mr_iter.specs.Merging.{current_at}
use Rattle.mr_chain.proofs.Reading.{below_children, placed_some, current_of, child_some}
use Rattle.mr_chain.proofs.Moves.{any_of, any_set, stop_since}
use Rattle.mr_chain.proofs.Seeks.{one_list, one_chain, whole_out, same_length, length_after}
use Rattle.mr_chain.proofs.Nexts.{step_counts, step_steps, step_sought, step_moved, step_whole, step_steady, step_spent, child_keeps, found_since, stands_since, end_since, last_at, goes_on, ended, open_list, open_chain, open_counts, open_steps, open_sought, open_whole_out, open_spent, open_moved, open_whole, open_steady}
use Rattle.mr_chain.proofs.chain.ChainCursor.next.Goals as goal
use Rattle.mr_chain.proofs.chain.ChainCursor.next.Goals.{then-not-at_end-via-then-not-at_end, then-not-at_end-via-else-not-at_end+then-here-count}

pub index_mut-requires : goal.index_mut-requires
index_mut-requires g c =
    omega (arith, c.args.self.now.children.ok.0, (below_children g.C.Listed.cursor c.args.self.now.children.items c.args.self.now.here (placed_some c.args.self.now.placed (current_at (map g.C.Listed.cursor c.args.self.now.children.items) c.args.self.now.here) c.requires)))

pub next-requires : goal.next-requires
next-requires g c =
    child_some g.C.Listed.cursor c.args.self.now.placed (g.C.Listed.cursor c.index_mut.result.now).current c.args.self.now.children.items c.args.self.now.children.items c.args.self.now.here (sym (current_of g.C.Listed.cursor c.args.self.now.children.items c.args.self.now.here c.index_mut.result.now (below_children g.C.Listed.cursor c.args.self.now.children.items c.args.self.now.here (placed_some c.args.self.now.placed (current_at (map g.C.Listed.cursor c.args.self.now.children.items) c.args.self.now.here) c.requires)) c.index_mut.ensures.value)) refl c.requires

pub invariant_of-self : goal.invariant_of-self
invariant_of-self g c =
    record { chain = one_chain g.C.Listed.cursor g.C.Listed.whole (g.D.Disk.disk c.args.disk.now) c.args.self.now.direction c.args.self.now.lasts.items c.args.self.now.children.items c.args.self.now.here c.index_mut.result.now c.next.new.self c.index_mut.ensures.value (record { list = c.next.ensures.list; stays_whole = c.next.ensures.whole }) c.args.self.now.from c.args.self.now.here c.args.self.now.from c.args.self.now.here c.args.self.now.chain.order c.args.self.now.chain }

pub returns-in-Err-clause-list : goal.returns-in-Err-clause-list
returns-in-Err-clause-list g c =
    one_list g.C.Listed.cursor g.C.Listed.whole (g.D.Disk.disk c.args.disk.now) c.args.self.now.direction c.args.self.now.lasts.items c.args.self.now.children.items c.args.self.now.here c.index_mut.result.now c.next.new.self c.index_mut.ensures.value (record { list = c.next.ensures.list; stays_whole = c.next.ensures.whole }) c.args.self.now.placed false c.args.self.now.from c.args.self.now.here c.args.self.now.from c.args.self.now.here

pub returns-in-Err-clause-counts : goal.returns-in-Err-clause-counts
returns-in-Err-clause-counts g c =
    step_counts g.C.Listed.cursor g.C.Listed.whole (g.D.Disk.disk c.args.disk.now) c.args.self.now.direction c.args.self.now.lasts.items c.args.self.now.children.items c.args.self.now.here c.index_mut.result.now c.next.new.self c.index_mut.ensures.value (record { list = c.next.ensures.list; stays_whole = c.next.ensures.whole }) (below_children g.C.Listed.cursor c.args.self.now.children.items c.args.self.now.here (placed_some c.args.self.now.placed (current_at (map g.C.Listed.cursor c.args.self.now.children.items) c.args.self.now.here) c.requires)) c.args.self.now.from c.args.self.now.chain c.args.self.now.placed false (g.D.Disk.disk c.next.new.disk) c.next.ensures.counts

pub returns-in-Err-clause-stops : goal.returns-in-Err-clause-stops
returns-in-Err-clause-stops g c =
    stop_since (g.D.Disk.disk c.args.disk.now) (g.D.Disk.disk c.args.disk.now) (g.D.Disk.disk c.next.new.disk) refl (λ _. same_start (g.D.Disk.disk c.args.disk.now)) (omega arith) (g.C.Listed.offends c.index_mut.result.now) (λ image file at. AnyOf (λ z. g.C.Listed.offends z image file at) c.args.self.now.children.items) (λ image file at here. any_of (λ z. g.C.Listed.offends z image file at) c.args.self.now.children.items c.args.self.now.here c.index_mut.result.now (below_children g.C.Listed.cursor c.args.self.now.children.items c.args.self.now.here (placed_some c.args.self.now.placed (current_at (map g.C.Listed.cursor c.args.self.now.children.items) c.args.self.now.here) c.requires)) c.index_mut.ensures.value here) c.in-Err.stop c.in-Err.ensures.stops

pub returns-in-Err-clause-offends : goal.returns-in-Err-clause-offends
returns-in-Err-clause-offends g c =
    λ image file at any. any_set (λ z. g.C.Listed.offends z image file at) c.args.self.now.children.items c.args.self.now.here c.index_mut.result.now c.next.new.self (below_children g.C.Listed.cursor c.args.self.now.children.items c.args.self.now.here (placed_some c.args.self.now.placed (current_at (map g.C.Listed.cursor c.args.self.now.children.items) c.args.self.now.here) c.requires)) c.index_mut.ensures.value (c.next.ensures.offends image file at) any

pub returns-in-Err-clause-whole : goal.returns-in-Err-clause-whole
returns-in-Err-clause-whole g c =
    λ told w. whole_out g.C.Listed.cursor g.C.Listed.whole (g.D.Disk.disk c.args.disk.now) c.args.self.now.direction c.args.self.now.lasts.items c.args.self.now.children.items c.args.self.now.here c.index_mut.result.now c.next.new.self c.index_mut.ensures.value (record { list = c.next.ensures.list; stays_whole = c.next.ensures.whole }) c.args.self.now.placed c.args.self.now.here c.args.self.now.here told w

pub returns-in-Err-clause-spent : goal.returns-in-Err-clause-spent
returns-in-Err-clause-spent g c =
    λ k told w s ones is. step_spent g.C.Listed.cursor g.C.Listed.whole (g.D.Disk.disk c.args.disk.now) c.args.self.now.direction c.args.self.now.lasts.items c.args.self.now.children.items c.args.self.now.here c.index_mut.result.now c.next.new.self c.index_mut.ensures.value (record { list = c.next.ensures.list; stays_whole = c.next.ensures.whole }) (below_children g.C.Listed.cursor c.args.self.now.children.items c.args.self.now.here (placed_some c.args.self.now.placed (current_at (map g.C.Listed.cursor c.args.self.now.children.items) c.args.self.now.here) c.requires)) c.args.self.now.from c.args.self.now.chain c.args.self.now.placed told w g.C.Listed.steady g.met.C.Listed.costs g.met.C.Listed.to_end s ones k (λ whole stands one key sought. c.in-Err.ensures.spent key told whole stands one sought) is

pub index-requires : goal.index-requires
index-requires g c =
    omega (arith, c.args.self.now.children.ok.0, (below_children g.C.Listed.cursor c.args.self.now.children.items c.args.self.now.here (placed_some c.args.self.now.placed (current_at (map g.C.Listed.cursor c.args.self.now.children.items) c.args.self.now.here) c.requires)))

pub overflow_add-here : goal.overflow_add-here
overflow_add-here g c =
    omega (arith, c.args.self.now.children.ok.0, (below_children g.C.Listed.cursor c.args.self.now.children.items c.args.self.now.here (placed_some c.args.self.now.placed (current_at (map g.C.Listed.cursor c.args.self.now.children.items) c.args.self.now.here) c.requires)), c.len-count.ensures, c.len-count.type_inv)

pub invariant_of-self-then-not-at_end : goal.invariant_of-self-then-not-at_end
invariant_of-self-then-not-at_end g c =
    record { chain = one_chain g.C.Listed.cursor g.C.Listed.whole (g.D.Disk.disk c.args.disk.now) c.args.self.now.direction c.args.self.now.lasts.items c.args.self.now.children.items c.args.self.now.here c.index_mut.result.now c.next.new.self c.index_mut.ensures.value (record { list = c.next.ensures.list; stays_whole = c.next.ensures.whole }) c.args.self.now.from c.args.self.now.here c.args.self.now.from c.args.self.now.here c.args.self.now.chain.order c.args.self.now.chain }

pub returns-then-not-at_end-clause-list : goal.returns-then-not-at_end-clause-list
returns-then-not-at_end-clause-list g c =
    one_list g.C.Listed.cursor g.C.Listed.whole (g.D.Disk.disk c.args.disk.now) c.args.self.now.direction c.args.self.now.lasts.items c.args.self.now.children.items c.args.self.now.here c.index_mut.result.now c.next.new.self c.index_mut.ensures.value (record { list = c.next.ensures.list; stays_whole = c.next.ensures.whole }) c.args.self.now.placed true c.args.self.now.from c.args.self.now.here c.args.self.now.from c.args.self.now.here

pub returns-then-not-at_end-clause-counts : goal.returns-then-not-at_end-clause-counts
returns-then-not-at_end-clause-counts g c =
    step_counts g.C.Listed.cursor g.C.Listed.whole (g.D.Disk.disk c.args.disk.now) c.args.self.now.direction c.args.self.now.lasts.items c.args.self.now.children.items c.args.self.now.here c.index_mut.result.now c.next.new.self c.index_mut.ensures.value (record { list = c.next.ensures.list; stays_whole = c.next.ensures.whole }) (below_children g.C.Listed.cursor c.args.self.now.children.items c.args.self.now.here (placed_some c.args.self.now.placed (current_at (map g.C.Listed.cursor c.args.self.now.children.items) c.args.self.now.here) c.requires)) c.args.self.now.from c.args.self.now.chain c.args.self.now.placed true (g.D.Disk.disk c.next.new.disk) c.next.ensures.counts

pub returns-then-not-at_end-clause-steps : goal.returns-then-not-at_end-clause-steps
returns-then-not-at_end-clause-steps g c =
    step_steps g.C.Listed.cursor g.C.Listed.whole (g.D.Disk.disk c.args.disk.now) c.args.self.now.direction c.args.self.now.lasts.items c.args.self.now.children.items c.args.self.now.here c.index_mut.result.now c.next.new.self c.index_mut.ensures.value (record { list = c.next.ensures.list; stays_whole = c.next.ensures.whole }) (below_children g.C.Listed.cursor c.args.self.now.children.items c.args.self.now.here (placed_some c.args.self.now.placed (current_at (map g.C.Listed.cursor c.args.self.now.children.items) c.args.self.now.here) c.requires)) c.args.self.now.from c.args.self.now.chain c.in-Ok.ensures.steps

pub returns-then-not-at_end-clause-offends : goal.returns-then-not-at_end-clause-offends
returns-then-not-at_end-clause-offends g c =
    λ image file at any. any_set (λ z. g.C.Listed.offends z image file at) c.args.self.now.children.items c.args.self.now.here c.index_mut.result.now c.next.new.self (below_children g.C.Listed.cursor c.args.self.now.children.items c.args.self.now.here (placed_some c.args.self.now.placed (current_at (map g.C.Listed.cursor c.args.self.now.children.items) c.args.self.now.here) c.requires)) c.index_mut.ensures.value (c.next.ensures.offends image file at) any

pub returns-then-not-at_end-clause-whole : goal.returns-then-not-at_end-clause-whole
returns-then-not-at_end-clause-whole g c =
    λ told w. step_whole g.C.Listed.cursor g.C.Listed.whole (g.D.Disk.disk c.args.disk.now) c.args.self.now.direction c.args.self.now.lasts.items c.args.self.now.children.items c.args.self.now.here c.index_mut.result.now c.next.new.self c.index_mut.ensures.value (record { list = c.next.ensures.list; stays_whole = c.next.ensures.whole }) (below_children g.C.Listed.cursor c.args.self.now.children.items c.args.self.now.here (placed_some c.args.self.now.placed (current_at (map g.C.Listed.cursor c.args.self.now.children.items) c.args.self.now.here) c.requires)) c.args.self.now.from c.args.self.now.chain c.args.self.now.placed told w c.requires (λ whole. c.in-Ok.ensures.moved told whole)

pub returns-then-not-at_end-clause-moved : goal.returns-then-not-at_end-clause-moved
returns-then-not-at_end-clause-moved g c =
    λ told w. step_moved g.C.Listed.cursor g.C.Listed.whole (g.D.Disk.disk c.args.disk.now) c.args.self.now.direction c.args.self.now.lasts.items c.args.self.now.children.items c.args.self.now.here c.index_mut.result.now c.next.new.self c.index_mut.ensures.value (record { list = c.next.ensures.list; stays_whole = c.next.ensures.whole }) (below_children g.C.Listed.cursor c.args.self.now.children.items c.args.self.now.here (placed_some c.args.self.now.placed (current_at (map g.C.Listed.cursor c.args.self.now.children.items) c.args.self.now.here) c.requires)) c.args.self.now.from c.args.self.now.chain c.args.self.now.placed told w (λ whole. c.in-Ok.ensures.moved told whole) (elim c.then-not-at_end.branch [
      | then-not-at_end-via-then-not-at_end b ↦ inl (goes_on g.C.Listed.cursor c.args.self.now.children.items c.args.self.now.here c.next.new.self c.index.result.now c.at_end.result (below_children g.C.Listed.cursor c.args.self.now.children.items c.args.self.now.here (placed_some c.args.self.now.placed (current_at (map g.C.Listed.cursor c.args.self.now.children.items) c.args.self.now.here) c.requires)) c.index.ensures c.at_end.ensures b.if-not-at_end.true)
      | then-not-at_end-via-else-not-at_end+then-here-count b ↦ inr (ended g.C.Listed.cursor c.args.self.now.children.items c.args.self.now.here c.next.new.self c.index.result.now c.at_end.result (below_children g.C.Listed.cursor c.args.self.now.children.items c.args.self.now.here (placed_some c.args.self.now.placed (current_at (map g.C.Listed.cursor c.args.self.now.children.items) c.args.self.now.here) c.requires)) c.index.ensures c.at_end.ensures b.if-not-at_end.false, omega (arith, b.if-here-count.true, c.len-count.ensures, c.args.self.now.children.ok.0))
    ])

pub returns-then-not-at_end-clause-sought : goal.returns-then-not-at_end-clause-sought
returns-then-not-at_end-clause-sought g c =
    λ k is. step_sought g.C.Listed.cursor g.C.Listed.whole (g.D.Disk.disk c.args.disk.now) c.args.self.now.direction c.args.self.now.lasts.items c.args.self.now.children.items c.args.self.now.here c.index_mut.result.now c.next.new.self c.index_mut.ensures.value (record { list = c.next.ensures.list; stays_whole = c.next.ensures.whole }) (below_children g.C.Listed.cursor c.args.self.now.children.items c.args.self.now.here (placed_some c.args.self.now.placed (current_at (map g.C.Listed.cursor c.args.self.now.children.items) c.args.self.now.here) c.requires)) c.args.self.now.from c.args.self.now.chain k (λ sought. c.in-Ok.ensures.sought k sought) is

pub returns-then-not-at_end-clause-steady : goal.returns-then-not-at_end-clause-steady
returns-then-not-at_end-clause-steady g c =
    λ told w s. step_steady g.C.Listed.cursor g.C.Listed.whole (g.D.Disk.disk c.args.disk.now) c.args.self.now.direction c.args.self.now.lasts.items c.args.self.now.children.items c.args.self.now.here c.index_mut.result.now c.next.new.self c.index_mut.ensures.value (record { list = c.next.ensures.list; stays_whole = c.next.ensures.whole }) (below_children g.C.Listed.cursor c.args.self.now.children.items c.args.self.now.here (placed_some c.args.self.now.placed (current_at (map g.C.Listed.cursor c.args.self.now.children.items) c.args.self.now.here) c.requires)) c.args.self.now.from c.args.self.now.chain c.args.self.now.placed told w g.C.Listed.steady s c.requires (λ whole. c.in-Ok.ensures.moved told whole) (elim c.then-not-at_end.branch [
      | then-not-at_end-via-then-not-at_end b ↦ inl (goes_on g.C.Listed.cursor c.args.self.now.children.items c.args.self.now.here c.next.new.self c.index.result.now c.at_end.result (below_children g.C.Listed.cursor c.args.self.now.children.items c.args.self.now.here (placed_some c.args.self.now.placed (current_at (map g.C.Listed.cursor c.args.self.now.children.items) c.args.self.now.here) c.requires)) c.index.ensures c.at_end.ensures b.if-not-at_end.true)
      | then-not-at_end-via-else-not-at_end+then-here-count b ↦ inr (ended g.C.Listed.cursor c.args.self.now.children.items c.args.self.now.here c.next.new.self c.index.result.now c.at_end.result (below_children g.C.Listed.cursor c.args.self.now.children.items c.args.self.now.here (placed_some c.args.self.now.placed (current_at (map g.C.Listed.cursor c.args.self.now.children.items) c.args.self.now.here) c.requires)) c.index.ensures c.at_end.ensures b.if-not-at_end.false, omega (arith, b.if-here-count.true, c.len-count.ensures, c.args.self.now.children.ok.0))
    ]) (λ whole stands. c.in-Ok.ensures.steady told whole stands) c.in-Ok.ensures.sought

pub invariant_of-self-in-Err-seek : goal.invariant_of-self-in-Err-seek
invariant_of-self-in-Err-seek g c =
    record { chain = open_chain g.C.Listed.cursor g.C.Listed.whole (g.D.Disk.disk c.args.disk.now) c.args.self.now.direction c.args.self.now.lasts.items c.args.self.now.children.items c.args.self.now.here c.index_mut.result.now c.next.new.self c.index_mut.ensures.value (record { list = c.next.ensures.list; stays_whole = c.next.ensures.whole }) (below_children g.C.Listed.cursor c.args.self.now.children.items c.args.self.now.here (placed_some c.args.self.now.placed (current_at (map g.C.Listed.cursor c.args.self.now.children.items) c.args.self.now.here) c.requires)) c.args.self.now.from c.args.self.now.chain (c.args.self.now.here + 1) (add-one c.args.self.now.here) c.index_mut-2.result.now c.seek.new.self c.index_mut-2.ensures.value (omega (arith, c.if-here-count.false, c.len-count.ensures, c.args.self.now.children.ok.0)) (child_keeps g.C.Listed.cursor g.C.Listed.whole (g.D.Disk.disk c.args.disk.now) (g.D.Disk.disk c.next.new.disk) c.next.ensures.counts.disk.tells c.next.ensures.same c.index_mut-2.result.now c.seek.new.self c.seek.ensures.list c.seek.ensures.whole) }

pub returns-in-Err-seek-clause-list : goal.returns-in-Err-seek-clause-list
returns-in-Err-seek-clause-list g c =
    open_list g.C.Listed.cursor g.C.Listed.whole (g.D.Disk.disk c.args.disk.now) c.args.self.now.direction c.args.self.now.lasts.items c.args.self.now.children.items c.args.self.now.here c.index_mut.result.now c.next.new.self c.index_mut.ensures.value (record { list = c.next.ensures.list; stays_whole = c.next.ensures.whole }) (below_children g.C.Listed.cursor c.args.self.now.children.items c.args.self.now.here (placed_some c.args.self.now.placed (current_at (map g.C.Listed.cursor c.args.self.now.children.items) c.args.self.now.here) c.requires)) c.args.self.now.from c.args.self.now.chain (c.args.self.now.here + 1) (add-one c.args.self.now.here) c.index_mut-2.result.now c.seek.new.self c.index_mut-2.ensures.value (omega (arith, c.if-here-count.false, c.len-count.ensures, c.args.self.now.children.ok.0)) (child_keeps g.C.Listed.cursor g.C.Listed.whole (g.D.Disk.disk c.args.disk.now) (g.D.Disk.disk c.next.new.disk) c.next.ensures.counts.disk.tells c.next.ensures.same c.index_mut-2.result.now c.seek.new.self c.seek.ensures.list c.seek.ensures.whole) c.args.self.now.placed false

pub returns-in-Err-seek-clause-counts : goal.returns-in-Err-seek-clause-counts
returns-in-Err-seek-clause-counts g c =
    open_counts g.C.Listed.cursor g.C.Listed.whole (g.D.Disk.disk c.args.disk.now) c.args.self.now.direction c.args.self.now.lasts.items c.args.self.now.children.items c.args.self.now.here c.index_mut.result.now c.next.new.self c.index_mut.ensures.value (record { list = c.next.ensures.list; stays_whole = c.next.ensures.whole }) (below_children g.C.Listed.cursor c.args.self.now.children.items c.args.self.now.here (placed_some c.args.self.now.placed (current_at (map g.C.Listed.cursor c.args.self.now.children.items) c.args.self.now.here) c.requires)) c.args.self.now.from c.args.self.now.chain (c.args.self.now.here + 1) (add-one c.args.self.now.here) c.index_mut-2.result.now c.seek.new.self c.index_mut-2.ensures.value (omega (arith, c.if-here-count.false, c.len-count.ensures, c.args.self.now.children.ok.0)) (child_keeps g.C.Listed.cursor g.C.Listed.whole (g.D.Disk.disk c.args.disk.now) (g.D.Disk.disk c.next.new.disk) c.next.ensures.counts.disk.tells c.next.ensures.same c.index_mut-2.result.now c.seek.new.self c.seek.ensures.list c.seek.ensures.whole) c.args.self.now.placed false (g.D.Disk.disk c.next.new.disk) (g.D.Disk.disk c.seek.new.disk) c.next.ensures.counts c.seek.ensures.counts

pub returns-in-Err-seek-clause-stops : goal.returns-in-Err-seek-clause-stops
returns-in-Err-seek-clause-stops g c =
    stop_since (g.D.Disk.disk c.args.disk.now) (g.D.Disk.disk c.next.new.disk) (g.D.Disk.disk c.seek.new.disk) c.next.ensures.counts.disk.tells c.next.ensures.same c.next.ensures.counts.disk.faults (g.C.Listed.offends c.index_mut-2.result.now) (λ image file at. AnyOf (λ v. g.C.Listed.offends v image file at) c.args.self.now.children.items) (λ image file at here. any_set (λ v. g.C.Listed.offends v image file at) c.args.self.now.children.items c.args.self.now.here c.index_mut.result.now c.next.new.self (below_children g.C.Listed.cursor c.args.self.now.children.items c.args.self.now.here (placed_some c.args.self.now.placed (current_at (map g.C.Listed.cursor c.args.self.now.children.items) c.args.self.now.here) c.requires)) c.index_mut.ensures.value (c.next.ensures.offends image file at) (any_of (λ v. g.C.Listed.offends v image file at) (set c.args.self.now.children.items c.args.self.now.here c.next.new.self) (c.args.self.now.here + 1) c.index_mut-2.result.now (omega (arith, c.if-here-count.false, c.len-count.ensures, c.args.self.now.children.ok.0, length_after c.args.self.now.children.items c.args.self.now.here c.next.new.self)) c.index_mut-2.ensures.value here)) c.in-Err-seek.stop c.in-Err-seek.ensures.stops

pub returns-in-Err-seek-clause-offends : goal.returns-in-Err-seek-clause-offends
returns-in-Err-seek-clause-offends g c =
    λ image file at any. any_set (λ v. g.C.Listed.offends v image file at) c.args.self.now.children.items c.args.self.now.here c.index_mut.result.now c.next.new.self (below_children g.C.Listed.cursor c.args.self.now.children.items c.args.self.now.here (placed_some c.args.self.now.placed (current_at (map g.C.Listed.cursor c.args.self.now.children.items) c.args.self.now.here) c.requires)) c.index_mut.ensures.value (c.next.ensures.offends image file at) (any_set (λ v. g.C.Listed.offends v image file at) (set c.args.self.now.children.items c.args.self.now.here c.next.new.self) (c.args.self.now.here + 1) c.index_mut-2.result.now c.seek.new.self (omega (arith, c.if-here-count.false, c.len-count.ensures, c.args.self.now.children.ok.0, length_after c.args.self.now.children.items c.args.self.now.here c.next.new.self)) c.index_mut-2.ensures.value (c.seek.ensures.offends image file at) any)

pub returns-in-Err-seek-clause-whole : goal.returns-in-Err-seek-clause-whole
returns-in-Err-seek-clause-whole g c =
    λ told w. open_whole_out g.C.Listed.cursor g.C.Listed.whole (g.D.Disk.disk c.args.disk.now) c.args.self.now.direction c.args.self.now.lasts.items c.args.self.now.children.items c.args.self.now.here c.index_mut.result.now c.next.new.self c.index_mut.ensures.value (record { list = c.next.ensures.list; stays_whole = c.next.ensures.whole }) (below_children g.C.Listed.cursor c.args.self.now.children.items c.args.self.now.here (placed_some c.args.self.now.placed (current_at (map g.C.Listed.cursor c.args.self.now.children.items) c.args.self.now.here) c.requires)) c.args.self.now.from c.args.self.now.chain (c.args.self.now.here + 1) (add-one c.args.self.now.here) c.index_mut-2.result.now c.seek.new.self c.index_mut-2.ensures.value (omega (arith, c.if-here-count.false, c.len-count.ensures, c.args.self.now.children.ok.0)) (child_keeps g.C.Listed.cursor g.C.Listed.whole (g.D.Disk.disk c.args.disk.now) (g.D.Disk.disk c.next.new.disk) c.next.ensures.counts.disk.tells c.next.ensures.same c.index_mut-2.result.now c.seek.new.self c.seek.ensures.list c.seek.ensures.whole) c.args.self.now.placed told w

pub returns-in-Err-seek-clause-spent : goal.returns-in-Err-seek-clause-spent
returns-in-Err-seek-clause-spent g c =
    λ k told w s ones is. open_spent g.C.Listed.cursor g.C.Listed.whole (g.D.Disk.disk c.args.disk.now) c.args.self.now.direction c.args.self.now.lasts.items c.args.self.now.children.items c.args.self.now.here c.index_mut.result.now c.next.new.self c.index_mut.ensures.value (record { list = c.next.ensures.list; stays_whole = c.next.ensures.whole }) (below_children g.C.Listed.cursor c.args.self.now.children.items c.args.self.now.here (placed_some c.args.self.now.placed (current_at (map g.C.Listed.cursor c.args.self.now.children.items) c.args.self.now.here) c.requires)) c.args.self.now.from c.args.self.now.chain (c.args.self.now.here + 1) (add-one c.args.self.now.here) c.index_mut-2.result.now c.seek.new.self c.index_mut-2.ensures.value (omega (arith, c.if-here-count.false, c.len-count.ensures, c.args.self.now.children.ok.0)) (child_keeps g.C.Listed.cursor g.C.Listed.whole (g.D.Disk.disk c.args.disk.now) (g.D.Disk.disk c.next.new.disk) c.next.ensures.counts.disk.tells c.next.ensures.same c.index_mut-2.result.now c.seek.new.self c.seek.ensures.list c.seek.ensures.whole) c.args.self.now.placed told w g.C.Listed.steady g.met.C.Listed.costs g.met.C.Listed.to_end s ones k (λ whole stands. c.in-Ok.ensures.steady told whole stands) c.in-Ok.ensures.sought (end_since g.C.Listed.cursor g.C.Listed.whole (g.D.Disk.disk c.args.disk.now) (g.D.Disk.disk c.next.new.disk) c.next.ensures.counts.disk.tells c.next.ensures.same told c.index_mut-2.result.now c.seek.new.self c.as_slice.result.now (get_or c.args.self.now.lasts.items c.args.self.now.here []) (c.as_slice.ensures ∙ (last_at c.args.self.now.lasts.items c.args.self.now.here c.index-2.result.now (omega (arith, (below_children g.C.Listed.cursor c.args.self.now.children.items c.args.self.now.here (placed_some c.args.self.now.placed (current_at (map g.C.Listed.cursor c.args.self.now.children.items) c.args.self.now.here) c.requires)), same_length g.C.Listed.cursor c.args.self.now.lasts.items c.args.self.now.children.items c.args.self.now.chain.lasts)) c.index-2.ensures)) c.in-Err-seek.ensures.anew) is

pub invariant_of-self-2 : goal.invariant_of-self-2
invariant_of-self-2 g c =
    record { chain = open_chain g.C.Listed.cursor g.C.Listed.whole (g.D.Disk.disk c.args.disk.now) c.args.self.now.direction c.args.self.now.lasts.items c.args.self.now.children.items c.args.self.now.here c.index_mut.result.now c.next.new.self c.index_mut.ensures.value (record { list = c.next.ensures.list; stays_whole = c.next.ensures.whole }) (below_children g.C.Listed.cursor c.args.self.now.children.items c.args.self.now.here (placed_some c.args.self.now.placed (current_at (map g.C.Listed.cursor c.args.self.now.children.items) c.args.self.now.here) c.requires)) c.args.self.now.from c.args.self.now.chain (c.args.self.now.here + 1) (add-one c.args.self.now.here) c.index_mut-2.result.now c.seek.new.self c.index_mut-2.ensures.value (omega (arith, c.if-here-count.false, c.len-count.ensures, c.args.self.now.children.ok.0)) (child_keeps g.C.Listed.cursor g.C.Listed.whole (g.D.Disk.disk c.args.disk.now) (g.D.Disk.disk c.next.new.disk) c.next.ensures.counts.disk.tells c.next.ensures.same c.index_mut-2.result.now c.seek.new.self c.seek.ensures.list c.seek.ensures.whole) }

pub returns-clause-list : goal.returns-clause-list
returns-clause-list g c =
    open_list g.C.Listed.cursor g.C.Listed.whole (g.D.Disk.disk c.args.disk.now) c.args.self.now.direction c.args.self.now.lasts.items c.args.self.now.children.items c.args.self.now.here c.index_mut.result.now c.next.new.self c.index_mut.ensures.value (record { list = c.next.ensures.list; stays_whole = c.next.ensures.whole }) (below_children g.C.Listed.cursor c.args.self.now.children.items c.args.self.now.here (placed_some c.args.self.now.placed (current_at (map g.C.Listed.cursor c.args.self.now.children.items) c.args.self.now.here) c.requires)) c.args.self.now.from c.args.self.now.chain (c.args.self.now.here + 1) (add-one c.args.self.now.here) c.index_mut-2.result.now c.seek.new.self c.index_mut-2.ensures.value (omega (arith, c.if-here-count.false, c.len-count.ensures, c.args.self.now.children.ok.0)) (child_keeps g.C.Listed.cursor g.C.Listed.whole (g.D.Disk.disk c.args.disk.now) (g.D.Disk.disk c.next.new.disk) c.next.ensures.counts.disk.tells c.next.ensures.same c.index_mut-2.result.now c.seek.new.self c.seek.ensures.list c.seek.ensures.whole) c.args.self.now.placed true

pub returns-clause-counts : goal.returns-clause-counts
returns-clause-counts g c =
    open_counts g.C.Listed.cursor g.C.Listed.whole (g.D.Disk.disk c.args.disk.now) c.args.self.now.direction c.args.self.now.lasts.items c.args.self.now.children.items c.args.self.now.here c.index_mut.result.now c.next.new.self c.index_mut.ensures.value (record { list = c.next.ensures.list; stays_whole = c.next.ensures.whole }) (below_children g.C.Listed.cursor c.args.self.now.children.items c.args.self.now.here (placed_some c.args.self.now.placed (current_at (map g.C.Listed.cursor c.args.self.now.children.items) c.args.self.now.here) c.requires)) c.args.self.now.from c.args.self.now.chain (c.args.self.now.here + 1) (add-one c.args.self.now.here) c.index_mut-2.result.now c.seek.new.self c.index_mut-2.ensures.value (omega (arith, c.if-here-count.false, c.len-count.ensures, c.args.self.now.children.ok.0)) (child_keeps g.C.Listed.cursor g.C.Listed.whole (g.D.Disk.disk c.args.disk.now) (g.D.Disk.disk c.next.new.disk) c.next.ensures.counts.disk.tells c.next.ensures.same c.index_mut-2.result.now c.seek.new.self c.seek.ensures.list c.seek.ensures.whole) c.args.self.now.placed true (g.D.Disk.disk c.next.new.disk) (g.D.Disk.disk c.seek.new.disk) c.next.ensures.counts c.seek.ensures.counts

pub returns-clause-steps : goal.returns-clause-steps
returns-clause-steps g c =
    open_steps g.C.Listed.cursor g.C.Listed.whole (g.D.Disk.disk c.args.disk.now) c.args.self.now.direction c.args.self.now.lasts.items c.args.self.now.children.items c.args.self.now.here c.index_mut.result.now c.next.new.self c.index_mut.ensures.value (record { list = c.next.ensures.list; stays_whole = c.next.ensures.whole }) (below_children g.C.Listed.cursor c.args.self.now.children.items c.args.self.now.here (placed_some c.args.self.now.placed (current_at (map g.C.Listed.cursor c.args.self.now.children.items) c.args.self.now.here) c.requires)) c.args.self.now.from c.args.self.now.chain (c.args.self.now.here + 1) (add-one c.args.self.now.here) c.index_mut-2.result.now c.seek.new.self c.index_mut-2.ensures.value (omega (arith, c.if-here-count.false, c.len-count.ensures, c.args.self.now.children.ok.0)) (child_keeps g.C.Listed.cursor g.C.Listed.whole (g.D.Disk.disk c.args.disk.now) (g.D.Disk.disk c.next.new.disk) c.next.ensures.counts.disk.tells c.next.ensures.same c.index_mut-2.result.now c.seek.new.self c.seek.ensures.list c.seek.ensures.whole) (g.met.C.Listed.bounded c.seek.new.self) c.in-Ok.ensures.steps

pub returns-clause-offends : goal.returns-clause-offends
returns-clause-offends g c =
    λ image file at any. any_set (λ v. g.C.Listed.offends v image file at) c.args.self.now.children.items c.args.self.now.here c.index_mut.result.now c.next.new.self (below_children g.C.Listed.cursor c.args.self.now.children.items c.args.self.now.here (placed_some c.args.self.now.placed (current_at (map g.C.Listed.cursor c.args.self.now.children.items) c.args.self.now.here) c.requires)) c.index_mut.ensures.value (c.next.ensures.offends image file at) (any_set (λ v. g.C.Listed.offends v image file at) (set c.args.self.now.children.items c.args.self.now.here c.next.new.self) (c.args.self.now.here + 1) c.index_mut-2.result.now c.seek.new.self (omega (arith, c.if-here-count.false, c.len-count.ensures, c.args.self.now.children.ok.0, length_after c.args.self.now.children.items c.args.self.now.here c.next.new.self)) c.index_mut-2.ensures.value (c.seek.ensures.offends image file at) any)

pub returns-clause-whole : goal.returns-clause-whole
returns-clause-whole g c =
    λ told w. open_whole g.C.Listed.cursor g.C.Listed.whole (g.D.Disk.disk c.args.disk.now) c.args.self.now.direction c.args.self.now.lasts.items c.args.self.now.children.items c.args.self.now.here c.index_mut.result.now c.next.new.self c.index_mut.ensures.value (record { list = c.next.ensures.list; stays_whole = c.next.ensures.whole }) (below_children g.C.Listed.cursor c.args.self.now.children.items c.args.self.now.here (placed_some c.args.self.now.placed (current_at (map g.C.Listed.cursor c.args.self.now.children.items) c.args.self.now.here) c.requires)) c.args.self.now.from c.args.self.now.chain (c.args.self.now.here + 1) (add-one c.args.self.now.here) c.index_mut-2.result.now c.seek.new.self c.index_mut-2.ensures.value (omega (arith, c.if-here-count.false, c.len-count.ensures, c.args.self.now.children.ok.0)) (child_keeps g.C.Listed.cursor g.C.Listed.whole (g.D.Disk.disk c.args.disk.now) (g.D.Disk.disk c.next.new.disk) c.next.ensures.counts.disk.tells c.next.ensures.same c.index_mut-2.result.now c.seek.new.self c.seek.ensures.list c.seek.ensures.whole) c.args.self.now.placed told w (λ whole. c.in-Ok.ensures.moved told whole) (ended g.C.Listed.cursor c.args.self.now.children.items c.args.self.now.here c.next.new.self c.index.result.now c.at_end.result (below_children g.C.Listed.cursor c.args.self.now.children.items c.args.self.now.here (placed_some c.args.self.now.placed (current_at (map g.C.Listed.cursor c.args.self.now.children.items) c.args.self.now.here) c.requires)) c.index.ensures c.at_end.ensures c.if-not-at_end.false) (found_since g.C.Listed.cursor g.C.Listed.whole (g.D.Disk.disk c.args.disk.now) (g.D.Disk.disk c.next.new.disk) c.next.ensures.counts.disk.tells c.next.ensures.same told c.index_mut-2.result.now c.seek.new.self c.as_slice.result.now (get_or c.args.self.now.lasts.items c.args.self.now.here []) (c.as_slice.ensures ∙ (last_at c.args.self.now.lasts.items c.args.self.now.here c.index-2.result.now (omega (arith, (below_children g.C.Listed.cursor c.args.self.now.children.items c.args.self.now.here (placed_some c.args.self.now.placed (current_at (map g.C.Listed.cursor c.args.self.now.children.items) c.args.self.now.here) c.requires)), same_length g.C.Listed.cursor c.args.self.now.lasts.items c.args.self.now.children.items c.args.self.now.chain.lasts)) c.index-2.ensures)) c.in-Ok-seek.ensures.found)

pub returns-clause-moved : goal.returns-clause-moved
returns-clause-moved g c =
    λ told w. open_moved g.C.Listed.cursor g.C.Listed.whole (g.D.Disk.disk c.args.disk.now) c.args.self.now.direction c.args.self.now.lasts.items c.args.self.now.children.items c.args.self.now.here c.index_mut.result.now c.next.new.self c.index_mut.ensures.value (record { list = c.next.ensures.list; stays_whole = c.next.ensures.whole }) (below_children g.C.Listed.cursor c.args.self.now.children.items c.args.self.now.here (placed_some c.args.self.now.placed (current_at (map g.C.Listed.cursor c.args.self.now.children.items) c.args.self.now.here) c.requires)) c.args.self.now.from c.args.self.now.chain (c.args.self.now.here + 1) (add-one c.args.self.now.here) c.index_mut-2.result.now c.seek.new.self c.index_mut-2.ensures.value (omega (arith, c.if-here-count.false, c.len-count.ensures, c.args.self.now.children.ok.0)) (child_keeps g.C.Listed.cursor g.C.Listed.whole (g.D.Disk.disk c.args.disk.now) (g.D.Disk.disk c.next.new.disk) c.next.ensures.counts.disk.tells c.next.ensures.same c.index_mut-2.result.now c.seek.new.self c.seek.ensures.list c.seek.ensures.whole) c.args.self.now.placed told w (λ whole. c.in-Ok.ensures.moved told whole) (ended g.C.Listed.cursor c.args.self.now.children.items c.args.self.now.here c.next.new.self c.index.result.now c.at_end.result (below_children g.C.Listed.cursor c.args.self.now.children.items c.args.self.now.here (placed_some c.args.self.now.placed (current_at (map g.C.Listed.cursor c.args.self.now.children.items) c.args.self.now.here) c.requires)) c.index.ensures c.at_end.ensures c.if-not-at_end.false) (found_since g.C.Listed.cursor g.C.Listed.whole (g.D.Disk.disk c.args.disk.now) (g.D.Disk.disk c.next.new.disk) c.next.ensures.counts.disk.tells c.next.ensures.same told c.index_mut-2.result.now c.seek.new.self c.as_slice.result.now (get_or c.args.self.now.lasts.items c.args.self.now.here []) (c.as_slice.ensures ∙ (last_at c.args.self.now.lasts.items c.args.self.now.here c.index-2.result.now (omega (arith, (below_children g.C.Listed.cursor c.args.self.now.children.items c.args.self.now.here (placed_some c.args.self.now.placed (current_at (map g.C.Listed.cursor c.args.self.now.children.items) c.args.self.now.here) c.requires)), same_length g.C.Listed.cursor c.args.self.now.lasts.items c.args.self.now.children.items c.args.self.now.chain.lasts)) c.index-2.ensures)) c.in-Ok-seek.ensures.found)

pub returns-clause-sought : goal.returns-clause-sought
returns-clause-sought g c =
    λ k is. open_sought g.C.Listed.cursor g.C.Listed.whole (g.D.Disk.disk c.args.disk.now) c.args.self.now.direction c.args.self.now.lasts.items c.args.self.now.children.items c.args.self.now.here c.index_mut.result.now c.next.new.self c.index_mut.ensures.value (record { list = c.next.ensures.list; stays_whole = c.next.ensures.whole }) (below_children g.C.Listed.cursor c.args.self.now.children.items c.args.self.now.here (placed_some c.args.self.now.placed (current_at (map g.C.Listed.cursor c.args.self.now.children.items) c.args.self.now.here) c.requires)) c.args.self.now.from c.args.self.now.chain (c.args.self.now.here + 1) (add-one c.args.self.now.here) c.index_mut-2.result.now c.seek.new.self c.index_mut-2.ensures.value (omega (arith, c.if-here-count.false, c.len-count.ensures, c.args.self.now.children.ok.0)) (child_keeps g.C.Listed.cursor g.C.Listed.whole (g.D.Disk.disk c.args.disk.now) (g.D.Disk.disk c.next.new.disk) c.next.ensures.counts.disk.tells c.next.ensures.same c.index_mut-2.result.now c.seek.new.self c.seek.ensures.list c.seek.ensures.whole) k (c.in-Ok.ensures.sought k) is

pub returns-clause-steady : goal.returns-clause-steady
returns-clause-steady g c =
    λ told w s. open_steady g.C.Listed.cursor g.C.Listed.whole (g.D.Disk.disk c.args.disk.now) c.args.self.now.direction c.args.self.now.lasts.items c.args.self.now.children.items c.args.self.now.here c.index_mut.result.now c.next.new.self c.index_mut.ensures.value (record { list = c.next.ensures.list; stays_whole = c.next.ensures.whole }) (below_children g.C.Listed.cursor c.args.self.now.children.items c.args.self.now.here (placed_some c.args.self.now.placed (current_at (map g.C.Listed.cursor c.args.self.now.children.items) c.args.self.now.here) c.requires)) c.args.self.now.from c.args.self.now.chain (c.args.self.now.here + 1) (add-one c.args.self.now.here) c.index_mut-2.result.now c.seek.new.self c.index_mut-2.ensures.value (omega (arith, c.if-here-count.false, c.len-count.ensures, c.args.self.now.children.ok.0)) (child_keeps g.C.Listed.cursor g.C.Listed.whole (g.D.Disk.disk c.args.disk.now) (g.D.Disk.disk c.next.new.disk) c.next.ensures.counts.disk.tells c.next.ensures.same c.index_mut-2.result.now c.seek.new.self c.seek.ensures.list c.seek.ensures.whole) c.args.self.now.placed told w (λ whole. c.in-Ok.ensures.moved told whole) (ended g.C.Listed.cursor c.args.self.now.children.items c.args.self.now.here c.next.new.self c.index.result.now c.at_end.result (below_children g.C.Listed.cursor c.args.self.now.children.items c.args.self.now.here (placed_some c.args.self.now.placed (current_at (map g.C.Listed.cursor c.args.self.now.children.items) c.args.self.now.here) c.requires)) c.index.ensures c.at_end.ensures c.if-not-at_end.false) (found_since g.C.Listed.cursor g.C.Listed.whole (g.D.Disk.disk c.args.disk.now) (g.D.Disk.disk c.next.new.disk) c.next.ensures.counts.disk.tells c.next.ensures.same told c.index_mut-2.result.now c.seek.new.self c.as_slice.result.now (get_or c.args.self.now.lasts.items c.args.self.now.here []) (c.as_slice.ensures ∙ (last_at c.args.self.now.lasts.items c.args.self.now.here c.index-2.result.now (omega (arith, (below_children g.C.Listed.cursor c.args.self.now.children.items c.args.self.now.here (placed_some c.args.self.now.placed (current_at (map g.C.Listed.cursor c.args.self.now.children.items) c.args.self.now.here) c.requires)), same_length g.C.Listed.cursor c.args.self.now.lasts.items c.args.self.now.children.items c.args.self.now.chain.lasts)) c.index-2.ensures)) c.in-Ok-seek.ensures.found) g.C.Listed.steady s c.requires (λ whole stands. c.in-Ok.ensures.steady told whole stands) c.in-Ok.ensures.sought (stands_since g.C.Listed.cursor g.C.Listed.whole (g.D.Disk.disk c.args.disk.now) (g.D.Disk.disk c.next.new.disk) c.next.ensures.counts.disk.tells c.next.ensures.same told c.index_mut-2.result.now c.seek.new.self g.C.Listed.steady c.in-Ok-seek.ensures.steady) (subst (λ (k : List ℕ). IsTrue ((g.C.Listed.cursor c.seek.new.self).sought k)) (c.as_slice.ensures ∙ (last_at c.args.self.now.lasts.items c.args.self.now.here c.index-2.result.now (omega (arith, (below_children g.C.Listed.cursor c.args.self.now.children.items c.args.self.now.here (placed_some c.args.self.now.placed (current_at (map g.C.Listed.cursor c.args.self.now.children.items) c.args.self.now.here) c.requires)), same_length g.C.Listed.cursor c.args.self.now.lasts.items c.args.self.now.children.items c.args.self.now.chain.lasts)) c.index-2.ensures)) c.in-Ok-seek.ensures.sought)
