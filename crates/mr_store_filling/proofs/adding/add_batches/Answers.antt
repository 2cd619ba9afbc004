use Rattle.mr_store_filling.proofs.Chained.{added_more}
use Rattle.mr_store_filling.proofs.adding.add_batches.Goals as goal

pub adding-preserved : goal.adding-preserved
adding-preserved c = added_more c.args.batches.now c.adding.i c.index-batches-i.result c.args.families.now c.adding.families c.add_batch.new.families c.adding-test.true c.index-batches-i.is c.adding.invariant c.in_ok-add_batch.ensures
