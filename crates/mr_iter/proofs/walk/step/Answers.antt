use Rattle.mr_iter.proofs.Walking.{walk_next}
use Rattle.mr_iter.proofs.walk.step.Goals as goal

pub returns-clause-walk : goal.returns-clause-walk
returns-clause-walk g c = λ p passing. walk_next p (g.C.Listed.offends c.args.cursor.now) (g.C.Listed.offends c.next.new.self) (g.C.Listed.whole c.args.cursor.now) (g.C.Listed.whole c.next.new.self) (g.C.Listed.steady c.args.cursor.now) (g.C.Listed.steady c.next.new.self) (g.C.Listed.cursor c.args.cursor.now) (g.C.Listed.cursor c.next.new.self) (g.D.Disk.disk c.args.disk.now) (g.D.Disk.disk c.next.new.disk)
    c.requires passing c.next.ensures.list c.next.ensures.counts c.next.ensures.same c.next.ensures.offends c.next.ensures.whole c.next.result c.next.ensures.at_end c.next.ensures.moved c.next.ensures.sought c.next.ensures.steady c.next.ensures.spent
