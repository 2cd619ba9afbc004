use Rattle.std.proofs.Common.{[], refl}
use Rattle.mr_store_memory.proofs.Named.{readied_same, readied_more, turned_more, readied_all, turned_all, readied_early}
use Rattle.mr_store_memory.proofs.readying.learn_names.Goals as goal

pub learning-init : goal.learning-init
learning-init c = record { readied = readied_same [] c.args.families.now; turned = λ f far small empty. refl }

pub learning-preserved : goal.learning-preserved
learning-preserved c =
    let os = c.args.batch.now in
    let o = c.index-batch-i.result in
    record {
      readied = readied_more os c.learning.i o c.args.families.now c.learning.families c.learn_name.new.families c.learning-test.true c.index-batch-i.is c.learning.invariant.readied c.learn_name.ensures.readied;
      turned = turned_more os c.learning.i o c.args.families.now c.learning.families c.learn_name.new.families c.learning-test.true c.index-batch-i.is c.learning.invariant.readied c.learning.invariant.turned c.in_ok-learn_name.ensures.turned;
    }

pub returns-clause-readied : goal.returns-clause-readied
returns-clause-readied c = readied_all c.args.batch.now c.learning.i c.args.families.now c.learning.families c.learning.invariant.readied

pub returns-clause-turned : goal.returns-clause-turned
returns-clause-turned c = turned_all c.args.batch.now c.learning.i c.args.families.now c.learning.families c.learning-test.false c.learning.invariant.turned

pub returns-in_err-learn_name-clause-readied : goal.returns-in_err-learn_name-clause-readied
returns-in_err-learn_name-clause-readied c =
    readied_early c.args.batch.now c.learning.i c.index-batch-i.result c.args.families.now c.learning.families c.learn_name.new.families c.learning-test.true c.index-batch-i.is c.learning.invariant.readied c.learn_name.ensures.readied
