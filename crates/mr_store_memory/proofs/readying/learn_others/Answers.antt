use Rattle.std.proofs.Common.{◌∙◌, sym, subst}
use Rattle.mr_wal.specs.declared.operation.Operation.{Operation}
use Rattle.mr_store_memory.specs.Knows.{Knows}
use Rattle.mr_store_memory.proofs.Others.{known_more, known_all}
use Rattle.mr_store_memory.proofs.readying.learn_others.Goals as goal

pub learning-preserved : goal.learning-preserved
learning-preserved c = record {
  same = λ f. c.learn_number.ensures.same f ∙ c.learning.invariant.same f;
  known = known_more c.args.batch.now c.learning.i c.index-batch-i.result c.learning.families c.learn_number.new.families c.learning-test.true c.index-batch-i.is c.learning.invariant.known (subst (λ (p : Operation). Knows p.family c.learning.families c.learn_number.new.families) (sym c.index-batch-i.is) c.in_ok-learn_number.ensures.known);
}

pub returns-clause-known : goal.returns-clause-known
returns-clause-known c = known_all c.args.batch.now c.learning.i c.learning.families c.learning-test.false c.learning.invariant.known
