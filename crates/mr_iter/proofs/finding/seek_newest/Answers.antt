use Rattle.std.proofs.Common.{◌≡◌, true, false, sym, ◌∙◌}
use Rattle.mr_iter.specs.Newest.{is_of}
use Rattle.mr_iter.proofs.Walking.{stands_on, in_some}
use Rattle.mr_iter.proofs.Seeking.{looks_begin, looks_next, looks_spent, not_at, found_past, found_here, both_at}
use Rattle.mr_iter.proofs.finding.seek_newest.Goals as goal

pub looking-init : goal.looking-init
looking-init g c = looks_begin g.C.Listed.cursor g.C.Listed.whole g.C.Listed.steady g.C.Listed.offends c.args.number c.args.key.now (g.D.Disk.disk c.args.disk.now) (g.D.Disk.disk c.seek.new.disk) c.args.cursor.now c.seek.new.self
    c.seek.ensures.list c.seek.ensures.counts c.seek.ensures.same c.seek.ensures.whole c.seek.ensures.offends c.in-Ok.ensures.found c.in-Ok.ensures.sought c.in-Ok.ensures.steady

pub returns-then-not-is_on-clause-found : goal.returns-then-not-is_on-clause-found
returns-then-not-is_on-clause-found g c =
    let here = stands_on (g.C.Listed.cursor c.looking.cursor).current c.at_end.result c.at_end.ensures c.looking-test.true in
    let other : is_of c.args.key.now here.0 ≡ false = sym (in_some _ (g.C.Listed.cursor c.looking.cursor).current here.0 here.1 c.is_on.ensures) ∙ c.if-not-is_on.true in
    λ told is. sym (found_past g.C.Listed.cursor g.C.Listed.whole g.C.Listed.steady g.C.Listed.offends c.args.number c.args.key.now (g.D.Disk.disk c.args.disk.now) (g.D.Disk.disk c.looking.disk) (g.D.Disk.disk c.looking.disk) c.args.cursor.now c.looking.cursor c.looking.cursor c.looking.invariant
    g.met.C.Listed.in_order here.0 here.1 other told is)

pub returns-then-is_upto-clause-found : goal.returns-then-is_upto-clause-found
returns-then-is_upto-clause-found g c =
    let here = stands_on (g.C.Listed.cursor c.looking.cursor).current c.at_end.result c.at_end.ensures c.looking-test.true in
    let same : is_of c.args.key.now here.0 ≡ true = sym (in_some _ (g.C.Listed.cursor c.looking.cursor).current here.0 here.1 c.is_on.ensures) ∙ c.if-not-is_on.false in
    let upto = sym (in_some _ (g.C.Listed.cursor c.looking.cursor).current here.0 here.1 c.is_upto.ensures) ∙ c.if-is_upto.true in
    λ told is. here.1 ∙ sym (found_here g.C.Listed.cursor g.C.Listed.whole g.C.Listed.steady g.C.Listed.offends c.args.number c.args.key.now (g.D.Disk.disk c.args.disk.now) (g.D.Disk.disk c.looking.disk) (g.D.Disk.disk c.looking.disk) c.args.cursor.now c.looking.cursor c.looking.cursor c.looking.invariant
    here.0 here.1 (both_at c.args.number c.args.key.now here.0 upto same) told is)

pub looking-preserved : goal.looking-preserved
looking-preserved g c =
    let here = stands_on (g.C.Listed.cursor c.looking.cursor).current c.at_end.result c.at_end.ensures c.looking-test.true in
    let past = sym (in_some _ (g.C.Listed.cursor c.looking.cursor).current here.0 here.1 c.is_upto.ensures) ∙ c.if-is_upto.false in
    looks_next g.C.Listed.cursor g.C.Listed.whole g.C.Listed.steady g.C.Listed.offends c.args.number c.args.key.now (g.D.Disk.disk c.args.disk.now) (g.D.Disk.disk c.looking.disk) (g.D.Disk.disk c.next.new.disk) c.args.cursor.now c.looking.cursor c.next.new.self c.looking.invariant
    here.0 here.1 (not_at c.args.number c.args.key.now here.0 past) c.in-Ok-next.ensures.list c.in-Ok-next.ensures.counts c.in-Ok-next.ensures.same c.in-Ok-next.ensures.whole c.in-Ok-next.ensures.offends c.in-Ok-next.ensures.moved c.in-Ok-next.ensures.sought c.in-Ok-next.ensures.steady

pub returns-in-Err-next-clause-spent : goal.returns-in-Err-next-clause-spent
returns-in-Err-next-clause-spent g c =
    looks_spent g.C.Listed.cursor g.C.Listed.whole g.C.Listed.steady g.C.Listed.offends c.args.number c.args.key.now (g.D.Disk.disk c.args.disk.now) (g.D.Disk.disk c.looking.disk) (g.D.Disk.disk c.next.new.disk) c.args.cursor.now c.looking.cursor c.next.new.self c.looking.invariant
    c.in-Err-next.ensures.list c.in-Err-next.ensures.counts (c.in-Err-next.ensures.spent c.args.key.now)
