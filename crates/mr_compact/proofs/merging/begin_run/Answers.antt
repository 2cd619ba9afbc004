use Rattle.mr_compact.proofs.Joining.{begins_fresh}
use Rattle.mr_compact.proofs.merging.begin_run.Goals as goal

pub returns-clause-holds : goal.returns-clause-holds
returns-clause-holds g c = λ s more rest all held.
    begins_fresh (g.W.RunOut.run (g.W.RunOut.out c.args.out.now).direction) c.args.written.now.last s (g.W.RunOut.out c.args.out.now) (g.W.RunOut.out c.begin.new.self) c.args.written.now.runs more rest all c.if-written.false c.begin.ensures.direction c.begin.ensures.empty c.begin.ensures.bytes held
