use Rattle.std.proofs.Common.{◌≡◌, ◌∙◌, sym, true, false}
use Rattle.mr_base.specs.Disk.{seen}
use Rattle.mr_iter.proofs.Walking.{goes_start, goes_here, goes_next, goes_over, comes_before, stands_on, in_some, passes_here}
use Rattle.mr_iter.proofs.walk.walk_to.Goals as goal

pub walking-init : goal.walking-init
walking-init g c = goes_start c.args.direction c.args.key.now (g.C.Listed.offends c.args.cursor.now) (g.C.Listed.whole c.args.cursor.now) (g.C.Listed.steady c.args.cursor.now) (g.C.Listed.cursor c.args.cursor.now) (g.D.Disk.disk c.args.disk.now)

pub returns-then-not-is_before-clause-left : goal.returns-then-not-is_before-clause-left
returns-then-not-is_before-clause-left g c =
    let here = stands_on (g.C.Listed.cursor c.walking.cursor).current c.at_end.result c.at_end.ensures c.walking-test.true in
    let behind : comes_before c.args.direction c.args.key.now here.0 ≡ false = sym (in_some _ (g.C.Listed.cursor c.walking.cursor).current here.0 here.1 c.is_before.ensures) ∙ c.if-not-is_before.true in
    goes_here c.args.direction c.args.key.now (g.C.Listed.offends c.args.cursor.now) (g.C.Listed.offends c.walking.cursor) (g.C.Listed.offends c.walking.cursor) (g.C.Listed.whole c.args.cursor.now) (g.C.Listed.whole c.walking.cursor) (g.C.Listed.whole c.walking.cursor) (g.C.Listed.steady c.args.cursor.now) (g.C.Listed.steady c.walking.cursor) (g.C.Listed.steady c.walking.cursor)
    (g.C.Listed.cursor c.args.cursor.now) (g.C.Listed.cursor c.walking.cursor) (g.C.Listed.cursor c.walking.cursor) (g.D.Disk.disk c.args.disk.now) (g.D.Disk.disk c.walking.disk) (g.D.Disk.disk c.walking.disk)
    c.walking.invariant c.requires (λ whole. (g.met.C.Listed.in_order c.walking.cursor (seen (g.D.Disk.disk c.args.disk.now)) whole).0) here.0 here.1 behind

pub walking-preserved : goal.walking-preserved
walking-preserved g c =
    let here = stands_on (g.C.Listed.cursor c.walking.cursor).current c.at_end.result c.at_end.ensures c.walking-test.true in
    let ahead : comes_before c.args.direction c.args.key.now here.0 ≡ true = sym (in_some _ (g.C.Listed.cursor c.walking.cursor).current here.0 here.1 c.is_before.ensures) ∙ c.if-not-is_before.false in
    goes_next c.args.direction c.args.key.now (g.C.Listed.offends c.args.cursor.now) (g.C.Listed.offends c.walking.cursor) (g.C.Listed.offends c.step.new.cursor) (g.C.Listed.whole c.args.cursor.now) (g.C.Listed.whole c.walking.cursor) (g.C.Listed.whole c.step.new.cursor) (g.C.Listed.steady c.args.cursor.now) (g.C.Listed.steady c.walking.cursor) (g.C.Listed.steady c.step.new.cursor)
    (g.C.Listed.cursor c.args.cursor.now) (g.C.Listed.cursor c.walking.cursor) (g.C.Listed.cursor c.step.new.cursor) (g.D.Disk.disk c.args.disk.now) (g.D.Disk.disk c.walking.disk) (g.D.Disk.disk c.step.new.disk)
    c.walking.invariant here.0 here.1 ahead (c.step.ensures.walk (comes_before c.args.direction c.args.key.now) (passes_here (comes_before c.args.direction c.args.key.now) (g.C.Listed.cursor c.walking.cursor).current here.0 here.1 ahead)) c.in-Ok.ensures.moved

pub returns-in-Err-clause-walk : goal.returns-in-Err-clause-walk
returns-in-Err-clause-walk g c =
    let here = stands_on (g.C.Listed.cursor c.walking.cursor).current c.at_end.result c.at_end.ensures c.walking-test.true in
    let ahead : comes_before c.args.direction c.args.key.now here.0 ≡ true = sym (in_some _ (g.C.Listed.cursor c.walking.cursor).current here.0 here.1 c.is_before.ensures) ∙ c.if-not-is_before.false in
    goes_over c.args.direction c.args.key.now (g.C.Listed.offends c.args.cursor.now) (g.C.Listed.offends c.walking.cursor) (g.C.Listed.offends c.step.new.cursor) (g.C.Listed.whole c.args.cursor.now) (g.C.Listed.whole c.walking.cursor) (g.C.Listed.whole c.step.new.cursor) (g.C.Listed.steady c.args.cursor.now) (g.C.Listed.steady c.walking.cursor) (g.C.Listed.steady c.step.new.cursor)
    (g.C.Listed.cursor c.args.cursor.now) (g.C.Listed.cursor c.walking.cursor) (g.C.Listed.cursor c.step.new.cursor) (g.D.Disk.disk c.args.disk.now) (g.D.Disk.disk c.walking.disk) (g.D.Disk.disk c.step.new.disk)
    c.walking.invariant (c.step.ensures.walk (comes_before c.args.direction c.args.key.now) (passes_here (comes_before c.args.direction c.args.key.now) (g.C.Listed.cursor c.walking.cursor).current here.0 here.1 ahead))
