use Rattle.std.proofs.Common.{take}
use Rattle.mr_store_filling.specs.Filled.{HaveAdded}
use Rattle.mr_store_filling.proofs.adding.add_batches.Given as goal

abbrev pub invariant-adding : goal.invariant-adding
invariant-adding l = HaveAdded (take l.i l.batches) l.fn.families l.families
