use Rattle.std.proofs.Common.{◌∙◌, ◌+◌, IsTrue, None, arith}
use Rattle.mr_base.specs.Disk.{seen}
use Rattle.mr_iter.specs.Children.{AnyOf}
use Rattle.mr_iter.proofs.Steps.{done-get, done-length, done-more, done-all, done-kept, zipped-map, each-of, any-of, any-set}
use Rattle.mr_iter.proofs.Spent.{reads_next, reads_in_all, seek_spent, sought_spent}
use Rattle.mr_iter.proofs.SeekLaws.{SoughtOne, kept_still, err_keeps, all_counts, seek_counts, child_keeps, child_found, same_on, stop_since}
use Rattle.mr_iter.proofs.children.seek_all.Goals as goal

pub returns-in-Err-clause-keeps : goal.returns-in-Err-clause-keeps
returns-in-Err-clause-keeps g c =
    err_keeps g.C.Listed.cursor g.C.Listed.whole g.C.Listed.steady c.args.key.now (g.D.Disk.disk c.args.disk.now) (g.D.Disk.disk c.loop-place.disk) (g.D.Disk.disk c.seek.new.disk) c.args.children.now.items c.loop-place.children.items c.loop-place.place c.index_mut.result.now c.seek.new.self
    (omega arith) c.loop-place.invariant.done c.index_mut.ensures.value
    (child_keeps g.C.Listed.cursor g.C.Listed.whole (g.D.Disk.disk c.args.disk.now) (g.D.Disk.disk c.loop-place.disk) (g.D.Disk.disk c.seek.new.disk) c.loop-place.invariant.counts.tells c.loop-place.invariant.same
    c.index_mut.result.now c.seek.new.self c.seek.ensures.list c.seek.ensures.whole)

pub returns-in-Err-clause-counts : goal.returns-in-Err-clause-counts
returns-in-Err-clause-counts g c =
    all_counts g.C.Listed.cursor g.C.Listed.whole g.C.Listed.steady c.args.key.now (g.D.Disk.disk c.args.disk.now) (g.D.Disk.disk c.loop-place.disk) (g.D.Disk.disk c.seek.new.disk) c.args.children.now.items c.loop-place.children.items c.loop-place.place c.index_mut.result.now c.seek.new.self
    (omega (arith, done-length _ c.loop-place.place c.args.children.now.items c.loop-place.children.items c.loop-place.invariant.done)) c.loop-place.invariant.counts c.seek.ensures.counts

pub returns-in-Err-clause-stops : goal.returns-in-Err-clause-stops
returns-in-Err-clause-stops g c =
    stop_since (g.D.Disk.disk c.args.disk.now) (g.D.Disk.disk c.loop-place.disk) (g.D.Disk.disk c.seek.new.disk) c.loop-place.invariant.counts.tells c.loop-place.invariant.same c.loop-place.invariant.counts.faults
    (g.C.Listed.offends c.index_mut.result.now) (λ image file at. AnyOf (λ x. g.C.Listed.offends x image file at) c.args.children.now.items)
    (λ image file at here. c.loop-place.invariant.offends image file at (any-of (λ x. g.C.Listed.offends x image file at) c.loop-place.children.items c.loop-place.place c.index_mut.result.now
    (omega (arith, done-length _ c.loop-place.place c.args.children.now.items c.loop-place.children.items c.loop-place.invariant.done)) c.index_mut.ensures.value here)) c.in-Err.stop c.in-Err.ensures.stops

pub returns-in-Err-clause-offends : goal.returns-in-Err-clause-offends
returns-in-Err-clause-offends g c = λ image file at any. c.loop-place.invariant.offends image file at (any-set (λ x. g.C.Listed.offends x image file at) c.loop-place.children.items c.loop-place.place c.index_mut.result.now c.seek.new.self
    (omega (arith, done-length _ c.loop-place.place c.args.children.now.items c.loop-place.children.items c.loop-place.invariant.done)) c.index_mut.ensures.value (c.seek.ensures.offends image file at) any)

pub returns-in-Err-clause-spent : goal.returns-in-Err-clause-spent
returns-in-Err-clause-spent g c = λ told is one.
    reads_in_all (λ x. (g.C.Listed.cursor x).reads_to (seen (g.D.Disk.disk c.args.disk.now)) c.args.key.now None) (λ x. (g.C.Listed.cursor x).asked_to (seen (g.D.Disk.disk c.args.disk.now)) c.args.key.now None) (c.loop-place.place + 1) c.args.children.now.items (g.D.Disk.disk c.args.disk.now) (g.D.Disk.disk c.seek.new.disk)
    (reads_next (λ x. (g.C.Listed.cursor x).reads_to (seen (g.D.Disk.disk c.args.disk.now)) c.args.key.now None) (λ x. (g.C.Listed.cursor x).asked_to (seen (g.D.Disk.disk c.args.disk.now)) c.args.key.now None) c.loop-place.place c.args.children.now.items c.index_mut.result.now (g.D.Disk.disk c.args.disk.now) (g.D.Disk.disk c.loop-place.disk) (g.D.Disk.disk c.seek.new.disk) (omega arith) (c.index_mut.ensures.value ∙ done-get _ c.loop-place.place c.args.children.now.items c.loop-place.children.items c.index_mut.result.now c.loop-place.invariant.done) (c.loop-place.invariant.spent told is one)
    (seek_spent g.C.Listed.cursor g.C.Listed.whole g.C.Listed.steady (g.D.Disk.disk c.args.disk.now) (g.D.Disk.disk c.loop-place.disk) (g.D.Disk.disk c.seek.new.disk) c.loop-place.invariant.counts.tells c.loop-place.invariant.same c.index_mut.result.now c.seek.new.self c.args.key.now c.in-Err.ensures.spent told
    (each-of (λ x. g.C.Listed.whole x (seen (g.D.Disk.disk c.args.disk.now))) c.args.children.now.items c.loop-place.place c.index_mut.result.now (omega arith) (c.index_mut.ensures.value ∙ done-get _ c.loop-place.place c.args.children.now.items c.loop-place.children.items c.index_mut.result.now c.loop-place.invariant.done) is)
    (each-of (λ x. IsTrue ((g.C.Listed.cursor x).distinct (seen (g.D.Disk.disk c.args.disk.now)))) c.args.children.now.items c.loop-place.place c.index_mut.result.now (omega arith) (c.index_mut.ensures.value ∙ done-get _ c.loop-place.place c.args.children.now.items c.loop-place.children.items c.index_mut.result.now c.loop-place.invariant.done) one)))

pub returns-clause-spent : goal.returns-clause-spent
returns-clause-spent g c = λ told is one.
    reads_in_all (λ x. (g.C.Listed.cursor x).reads_to (seen (g.D.Disk.disk c.args.disk.now)) c.args.key.now None) (λ x. (g.C.Listed.cursor x).asked_to (seen (g.D.Disk.disk c.args.disk.now)) c.args.key.now None) c.loop-place.place c.args.children.now.items (g.D.Disk.disk c.args.disk.now) (g.D.Disk.disk c.loop-place.disk) (c.loop-place.invariant.spent told is one)

pub loop-place-preserved : goal.loop-place-preserved
loop-place-preserved g c = record {
  done = done-more _ c.loop-place.place c.args.children.now.items c.loop-place.children.items c.index_mut.result.now c.seek.new.self (omega arith) c.loop-place.invariant.done c.index_mut.ensures.value (
    child_keeps g.C.Listed.cursor g.C.Listed.whole (g.D.Disk.disk c.args.disk.now) (g.D.Disk.disk c.loop-place.disk) (g.D.Disk.disk c.seek.new.disk) c.loop-place.invariant.counts.tells c.loop-place.invariant.same
        c.index_mut.result.now c.seek.new.self c.seek.ensures.list c.seek.ensures.whole,
    child_found g.C.Listed.cursor g.C.Listed.whole (g.D.Disk.disk c.args.disk.now) (g.D.Disk.disk c.loop-place.disk) (g.D.Disk.disk c.seek.new.disk) c.loop-place.invariant.counts.tells c.loop-place.invariant.same
        g.C.Listed.steady c.args.key.now c.index_mut.result.now c.seek.new.self c.in-Ok.ensures.sought c.in-Ok.ensures.steady c.in-Ok.ensures.found,
  );
  counts = seek_counts g.C.Listed.cursor g.C.Listed.whole g.C.Listed.steady c.args.key.now (g.D.Disk.disk c.args.disk.now) (g.D.Disk.disk c.loop-place.disk) (g.D.Disk.disk c.seek.new.disk) c.args.children.now.items c.loop-place.children.items c.loop-place.place c.index_mut.result.now c.seek.new.self
      (omega (arith, done-length _ c.loop-place.place c.args.children.now.items c.loop-place.children.items c.loop-place.invariant.done)) c.loop-place.invariant.counts c.seek.ensures.counts;
  same = same_on g.C.Listed.cursor g.C.Listed.whole (g.D.Disk.disk c.args.disk.now) (g.D.Disk.disk c.loop-place.disk) (g.D.Disk.disk c.seek.new.disk) c.loop-place.invariant.counts.tells c.loop-place.invariant.same c.seek.ensures.same;
  offends = λ image file at any. c.loop-place.invariant.offends image file at (any-set (λ x. g.C.Listed.offends x image file at) c.loop-place.children.items c.loop-place.place c.index_mut.result.now c.seek.new.self
      (omega (arith, done-length _ c.loop-place.place c.args.children.now.items c.loop-place.children.items c.loop-place.invariant.done)) c.index_mut.ensures.value (c.seek.ensures.offends image file at) any);
  spent = λ told is one. reads_next (λ x. (g.C.Listed.cursor x).reads_to (seen (g.D.Disk.disk c.args.disk.now)) c.args.key.now None) (λ x. (g.C.Listed.cursor x).asked_to (seen (g.D.Disk.disk c.args.disk.now)) c.args.key.now None) c.loop-place.place c.args.children.now.items c.index_mut.result.now (g.D.Disk.disk c.args.disk.now) (g.D.Disk.disk c.loop-place.disk) (g.D.Disk.disk c.seek.new.disk) (omega arith) (c.index_mut.ensures.value ∙ done-get _ c.loop-place.place c.args.children.now.items c.loop-place.children.items c.index_mut.result.now c.loop-place.invariant.done) (c.loop-place.invariant.spent told is one)
      (let w = (each-of (λ x. g.C.Listed.whole x (seen (g.D.Disk.disk c.args.disk.now))) c.args.children.now.items c.loop-place.place c.index_mut.result.now (omega arith) (c.index_mut.ensures.value ∙ done-get _ c.loop-place.place c.args.children.now.items c.loop-place.children.items c.index_mut.result.now c.loop-place.invariant.done) is) in
      sought_spent g.C.Listed.cursor g.C.Listed.whole g.C.Listed.steady g.met.C.Listed.costs g.met.C.Listed.to_end c.index_mut.result.now c.seek.new.self (seen (g.D.Disk.disk c.args.disk.now)) c.args.key.now (g.D.Disk.disk c.loop-place.disk) (g.D.Disk.disk c.seek.new.disk) c.seek.ensures.list c.seek.ensures.counts
      ((child_keeps g.C.Listed.cursor g.C.Listed.whole (g.D.Disk.disk c.args.disk.now) (g.D.Disk.disk c.loop-place.disk) (g.D.Disk.disk c.seek.new.disk) c.loop-place.invariant.counts.tells c.loop-place.invariant.same c.index_mut.result.now c.seek.new.self c.seek.ensures.list c.seek.ensures.whole).stays_whole told w)
      ((child_found g.C.Listed.cursor g.C.Listed.whole (g.D.Disk.disk c.args.disk.now) (g.D.Disk.disk c.loop-place.disk) (g.D.Disk.disk c.seek.new.disk) c.loop-place.invariant.counts.tells c.loop-place.invariant.same g.C.Listed.steady c.args.key.now c.index_mut.result.now c.seek.new.self c.in-Ok.ensures.sought c.in-Ok.ensures.steady c.in-Ok.ensures.found).stands told w)
      (each-of (λ x. IsTrue ((g.C.Listed.cursor x).distinct (seen (g.D.Disk.disk c.args.disk.now)))) c.args.children.now.items c.loop-place.place c.index_mut.result.now (omega arith) (c.index_mut.ensures.value ∙ done-get _ c.loop-place.place c.args.children.now.items c.loop-place.children.items c.index_mut.result.now c.loop-place.invariant.done) one) c.in-Ok.ensures.sought);
}

pub returns-clause-keeps : goal.returns-clause-keeps
returns-clause-keeps g c = done-kept (SoughtOne g.C.Listed.cursor g.C.Listed.whole g.C.Listed.steady c.args.key.now (g.D.Disk.disk c.args.disk.now)) _ c.loop-place.place c.args.children.now.items c.loop-place.children.items
    (kept_still g.C.Listed.cursor g.C.Listed.whole (g.D.Disk.disk c.args.disk.now)) (λ v w both. both.0) c.loop-place.invariant.done

pub returns-clause-found : goal.returns-clause-found
returns-clause-found g c = zipped-map (SoughtOne g.C.Listed.cursor g.C.Listed.whole g.C.Listed.steady c.args.key.now (g.D.Disk.disk c.args.disk.now)) _ (λ v w both. both.1) c.args.children.now.items c.loop-place.children.items
    (done-all _ c.loop-place.place c.args.children.now.items c.loop-place.children.items (omega arith) c.loop-place.invariant.done)
