use Rattle.std.proofs.Common.{◌∙◌, sym, ap, arith, ℕ, List, refl, true, false}
use Rattle.mr_base.specs.Disk.{seen}
use Rattle.mr_base.proofs.Moments.{same_start}
use Rattle.mr_iter.specs.Children.{AnyOf}
use Rattle.mr_chain.specs.Chains.{child_of}
use Rattle.mr_chain.proofs.Moves.{any_of, any_set, each_of, stop_since}
use Rattle.mr_chain.proofs.Seeks.{out_found, out_sought, out_steady, one_list, one_chain, whole_out, one_counts, one_spent, one_end, one_sought, one_whole, one_left, one_steady}
use Rattle.mr_chain.proofs.chain.ChainCursor.seek.Goals as goal

pub returns-then-from-len-clause-found : goal.returns-then-from-len-clause-found
returns-then-from-len-clause-found g c =
    λ told w. out_found g.C.Listed.cursor g.C.Listed.whole g.C.Listed.steady g.met.C.Listed.in_order c.args.self.now.direction (seen (g.D.Disk.disk c.args.disk.now)) c.args.key.now c.args.self.now.lasts.items c.args.self.now.children.items c.child_of-from.result (omega (arith, c.if-from-len.true, c.len.ensures, c.args.self.now.children.ok.0)) (c.child_of-from.ensures ∙ ap (λ (ks : List (List ℕ)). child_of c.args.self.now.direction ks c.args.key.now) c.deref.ensures.value) c.args.self.now.placed c.args.self.now.here w

pub returns-then-from-len-clause-sought : goal.returns-then-from-len-clause-sought
returns-then-from-len-clause-sought g c =
    out_sought g.C.Listed.cursor g.C.Listed.whole g.C.Listed.steady g.met.C.Listed.in_order c.args.self.now.direction (seen (g.D.Disk.disk c.args.disk.now)) c.args.key.now c.args.self.now.lasts.items c.args.self.now.children.items c.child_of-from.result (omega (arith, c.if-from-len.true, c.len.ensures, c.args.self.now.children.ok.0)) (c.child_of-from.ensures ∙ ap (λ (ks : List (List ℕ)). child_of c.args.self.now.direction ks c.args.key.now) c.deref.ensures.value)

pub returns-then-from-len-clause-steady : goal.returns-then-from-len-clause-steady
returns-then-from-len-clause-steady g c =
    λ told w. out_steady g.C.Listed.cursor g.C.Listed.whole g.C.Listed.steady g.met.C.Listed.in_order c.args.self.now.direction (seen (g.D.Disk.disk c.args.disk.now)) c.args.key.now c.args.self.now.lasts.items c.args.self.now.children.items c.child_of-from.result (omega (arith, c.if-from-len.true, c.len.ensures, c.args.self.now.children.ok.0)) (c.child_of-from.ensures ∙ ap (λ (ks : List (List ℕ)). child_of c.args.self.now.direction ks c.args.key.now) c.deref.ensures.value)

pub invariant_of-self-in-Err-1 : goal.invariant_of-self-in-Err-1
invariant_of-self-in-Err-1 g c =
    record { chain = one_chain g.C.Listed.cursor g.C.Listed.whole (g.D.Disk.disk c.args.disk.now) c.args.self.now.direction c.args.self.now.lasts.items c.args.self.now.children.items c.child_of-from.result c.index_mut.result.now c.seek.new.self c.index_mut.ensures.value (record { list = c.seek.ensures.list; stays_whole = c.seek.ensures.whole }) c.args.self.now.from c.args.self.now.here c.child_of-from.result c.child_of-from.result (omega arith) c.args.self.now.chain }

pub invariant_of-self-2 : goal.invariant_of-self-2
invariant_of-self-2 g c =
    record { chain = one_chain g.C.Listed.cursor g.C.Listed.whole (g.D.Disk.disk c.args.disk.now) c.args.self.now.direction c.args.self.now.lasts.items c.args.self.now.children.items c.child_of-from.result c.index_mut.result.now c.seek.new.self c.index_mut.ensures.value (record { list = c.seek.ensures.list; stays_whole = c.seek.ensures.whole }) c.args.self.now.from c.args.self.now.here c.child_of-from.result c.child_of-from.result (omega arith) c.args.self.now.chain }

pub returns-in-Err-clause-list : goal.returns-in-Err-clause-list
returns-in-Err-clause-list g c =
    one_list g.C.Listed.cursor g.C.Listed.whole (g.D.Disk.disk c.args.disk.now) c.args.self.now.direction c.args.self.now.lasts.items c.args.self.now.children.items c.child_of-from.result c.index_mut.result.now c.seek.new.self c.index_mut.ensures.value (record { list = c.seek.ensures.list; stays_whole = c.seek.ensures.whole }) c.args.self.now.placed false c.args.self.now.from c.args.self.now.here c.child_of-from.result c.child_of-from.result

pub returns-clause-list : goal.returns-clause-list
returns-clause-list g c =
    one_list g.C.Listed.cursor g.C.Listed.whole (g.D.Disk.disk c.args.disk.now) c.args.self.now.direction c.args.self.now.lasts.items c.args.self.now.children.items c.child_of-from.result c.index_mut.result.now c.seek.new.self c.index_mut.ensures.value (record { list = c.seek.ensures.list; stays_whole = c.seek.ensures.whole }) c.args.self.now.placed true c.args.self.now.from c.args.self.now.here c.child_of-from.result c.child_of-from.result

pub returns-in-Err-clause-counts : goal.returns-in-Err-clause-counts
returns-in-Err-clause-counts g c =
    one_counts g.C.Listed.cursor g.C.Listed.whole (g.D.Disk.disk c.args.disk.now) c.args.self.now.direction c.args.self.now.lasts.items c.args.self.now.children.items c.child_of-from.result c.index_mut.result.now c.seek.new.self c.index_mut.ensures.value (record { list = c.seek.ensures.list; stays_whole = c.seek.ensures.whole }) (omega (arith, c.if-from-len.false, c.len.ensures, c.args.self.now.children.ok.0)) c.args.key.now (sym (c.child_of-from.ensures ∙ ap (λ (ks : List (List ℕ)). child_of c.args.self.now.direction ks c.args.key.now) c.deref.ensures.value)) c.args.self.now.from c.args.self.now.here c.args.self.now.chain (g.D.Disk.disk c.seek.new.disk) c.seek.ensures.counts

pub returns-clause-counts : goal.returns-clause-counts
returns-clause-counts g c =
    one_counts g.C.Listed.cursor g.C.Listed.whole (g.D.Disk.disk c.args.disk.now) c.args.self.now.direction c.args.self.now.lasts.items c.args.self.now.children.items c.child_of-from.result c.index_mut.result.now c.seek.new.self c.index_mut.ensures.value (record { list = c.seek.ensures.list; stays_whole = c.seek.ensures.whole }) (omega (arith, c.if-from-len.false, c.len.ensures, c.args.self.now.children.ok.0)) c.args.key.now (sym (c.child_of-from.ensures ∙ ap (λ (ks : List (List ℕ)). child_of c.args.self.now.direction ks c.args.key.now) c.deref.ensures.value)) c.args.self.now.from c.args.self.now.here c.args.self.now.chain (g.D.Disk.disk c.seek.new.disk) c.seek.ensures.counts

pub returns-in-Err-clause-offends : goal.returns-in-Err-clause-offends
returns-in-Err-clause-offends g c =
    λ image file at any. any_set (λ z. g.C.Listed.offends z image file at) c.args.self.now.children.items c.child_of-from.result c.index_mut.result.now c.seek.new.self (omega (arith, c.if-from-len.false, c.len.ensures, c.args.self.now.children.ok.0)) c.index_mut.ensures.value (c.seek.ensures.offends image file at) any

pub returns-clause-offends : goal.returns-clause-offends
returns-clause-offends g c =
    λ image file at any. any_set (λ z. g.C.Listed.offends z image file at) c.args.self.now.children.items c.child_of-from.result c.index_mut.result.now c.seek.new.self (omega (arith, c.if-from-len.false, c.len.ensures, c.args.self.now.children.ok.0)) c.index_mut.ensures.value (c.seek.ensures.offends image file at) any

pub returns-in-Err-clause-stops : goal.returns-in-Err-clause-stops
returns-in-Err-clause-stops g c =
    stop_since (g.D.Disk.disk c.args.disk.now) (g.D.Disk.disk c.args.disk.now) (g.D.Disk.disk c.seek.new.disk) refl (λ _. same_start (g.D.Disk.disk c.args.disk.now)) (omega arith) (g.C.Listed.offends c.index_mut.result.now) (λ image file at. AnyOf (λ z. g.C.Listed.offends z image file at) c.args.self.now.children.items) (λ image file at here. any_of (λ z. g.C.Listed.offends z image file at) c.args.self.now.children.items c.child_of-from.result c.index_mut.result.now (omega (arith, c.if-from-len.false, c.len.ensures, c.args.self.now.children.ok.0)) c.index_mut.ensures.value here) c.in-Err.stop c.in-Err.ensures.stops

pub returns-in-Err-clause-whole : goal.returns-in-Err-clause-whole
returns-in-Err-clause-whole g c =
    λ told w. whole_out g.C.Listed.cursor g.C.Listed.whole (g.D.Disk.disk c.args.disk.now) c.args.self.now.direction c.args.self.now.lasts.items c.args.self.now.children.items c.child_of-from.result c.index_mut.result.now c.seek.new.self c.index_mut.ensures.value (record { list = c.seek.ensures.list; stays_whole = c.seek.ensures.whole }) c.args.self.now.placed c.args.self.now.here c.child_of-from.result told w

pub returns-in-Err-clause-spent : goal.returns-in-Err-clause-spent
returns-in-Err-clause-spent g c =
    λ told w ones. one_spent g.C.Listed.cursor g.C.Listed.whole (g.D.Disk.disk c.args.disk.now) c.args.self.now.direction c.args.self.now.lasts.items c.args.self.now.children.items c.child_of-from.result c.index_mut.result.now c.seek.new.self c.index_mut.ensures.value (record { list = c.seek.ensures.list; stays_whole = c.seek.ensures.whole }) (omega (arith, c.if-from-len.false, c.len.ensures, c.args.self.now.children.ok.0)) c.args.key.now (sym (c.child_of-from.ensures ∙ ap (λ (ks : List (List ℕ)). child_of c.args.self.now.direction ks c.args.key.now) c.deref.ensures.value)) c.args.self.now.from c.args.self.now.here c.args.self.now.chain c.args.self.now.placed c.args.self.now.here (g.D.Disk.disk c.seek.new.disk) told w ones (λ is one. c.in-Err.ensures.spent told is one)

pub returns-in-Err-clause-anew : goal.returns-in-Err-clause-anew
returns-in-Err-clause-anew g c =
    λ told w ones anew. one_end g.C.Listed.cursor g.C.Listed.whole (g.D.Disk.disk c.args.disk.now) c.args.self.now.direction c.args.self.now.lasts.items c.args.self.now.children.items c.child_of-from.result c.index_mut.result.now c.seek.new.self c.index_mut.ensures.value (record { list = c.seek.ensures.list; stays_whole = c.seek.ensures.whole }) (omega (arith, c.if-from-len.false, c.len.ensures, c.args.self.now.children.ok.0)) c.args.key.now (sym (c.child_of-from.ensures ∙ ap (λ (ks : List (List ℕ)). child_of c.args.self.now.direction ks c.args.key.now) c.deref.ensures.value)) c.args.self.now.from c.args.self.now.here c.args.self.now.chain c.args.self.now.placed c.args.self.now.here w ones (λ is one new. c.in-Err.ensures.anew told is one new)

pub returns-clause-whole : goal.returns-clause-whole
returns-clause-whole g c =
    λ told w. one_whole g.C.Listed.cursor g.C.Listed.whole (g.D.Disk.disk c.args.disk.now) c.args.self.now.direction c.args.self.now.lasts.items c.args.self.now.children.items c.child_of-from.result c.index_mut.result.now c.seek.new.self c.index_mut.ensures.value (record { list = c.seek.ensures.list; stays_whole = c.seek.ensures.whole }) (omega (arith, c.if-from-len.false, c.len.ensures, c.args.self.now.children.ok.0)) c.args.key.now (sym (c.child_of-from.ensures ∙ ap (λ (ks : List (List ℕ)). child_of c.args.self.now.direction ks c.args.key.now) c.deref.ensures.value)) c.args.self.now.from c.args.self.now.here c.args.self.now.chain c.args.self.now.placed c.args.self.now.here told w (λ is. c.in-Ok.ensures.found told is)

pub returns-clause-found : goal.returns-clause-found
returns-clause-found g c =
    λ told w. one_left g.C.Listed.cursor g.C.Listed.whole (g.D.Disk.disk c.args.disk.now) c.args.self.now.direction c.args.self.now.lasts.items c.args.self.now.children.items c.child_of-from.result c.index_mut.result.now c.seek.new.self c.index_mut.ensures.value (record { list = c.seek.ensures.list; stays_whole = c.seek.ensures.whole }) (omega (arith, c.if-from-len.false, c.len.ensures, c.args.self.now.children.ok.0)) c.args.key.now (sym (c.child_of-from.ensures ∙ ap (λ (ks : List (List ℕ)). child_of c.args.self.now.direction ks c.args.key.now) c.deref.ensures.value)) c.args.self.now.from c.args.self.now.here c.args.self.now.chain c.args.self.now.placed c.args.self.now.here told w (λ is. c.in-Ok.ensures.found told is)

pub returns-clause-sought : goal.returns-clause-sought
returns-clause-sought g c =
    one_sought g.C.Listed.cursor g.C.Listed.whole (g.D.Disk.disk c.args.disk.now) c.args.self.now.direction c.args.self.now.lasts.items c.args.self.now.children.items c.child_of-from.result c.index_mut.result.now c.seek.new.self c.index_mut.ensures.value (record { list = c.seek.ensures.list; stays_whole = c.seek.ensures.whole }) (omega (arith, c.if-from-len.false, c.len.ensures, c.args.self.now.children.ok.0)) c.args.key.now (sym (c.child_of-from.ensures ∙ ap (λ (ks : List (List ℕ)). child_of c.args.self.now.direction ks c.args.key.now) c.deref.ensures.value)) c.args.self.now.from c.args.self.now.here c.args.self.now.chain c.in-Ok.ensures.sought

pub returns-clause-steady : goal.returns-clause-steady
returns-clause-steady g c =
    λ told w. one_steady g.C.Listed.cursor g.C.Listed.whole (g.D.Disk.disk c.args.disk.now) c.args.self.now.direction c.args.self.now.lasts.items c.args.self.now.children.items c.child_of-from.result c.index_mut.result.now c.seek.new.self c.index_mut.ensures.value (record { list = c.seek.ensures.list; stays_whole = c.seek.ensures.whole }) (omega (arith, c.if-from-len.false, c.len.ensures, c.args.self.now.children.ok.0)) c.args.key.now (sym (c.child_of-from.ensures ∙ ap (λ (ks : List (List ℕ)). child_of c.args.self.now.direction ks c.args.key.now) c.deref.ensures.value)) c.args.self.now.from c.args.self.now.here c.args.self.now.chain c.args.self.now.placed c.args.self.now.here told w (λ is. c.in-Ok.ensures.found told is) g.C.Listed.steady g.met.C.Listed.in_order (c.in-Ok.ensures.steady told (each_of (λ z. g.C.Listed.whole z (seen (g.D.Disk.disk c.args.disk.now))) c.args.self.now.children.items c.child_of-from.result c.index_mut.result.now (omega (arith, c.if-from-len.false, c.len.ensures, c.args.self.now.children.ok.0)) c.index_mut.ensures.value w.each))
