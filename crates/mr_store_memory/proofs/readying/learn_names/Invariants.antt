use Rattle.std.proofs.Common.{take}
use Rattle.mr_store_memory.specs.Readied.{Readied, AreTurnedBy}
use Rattle.mr_store_memory.proofs.readying.learn_names.Given as goal

abbrev pub invariant-learning : goal.invariant-learning
invariant-learning l = record {
  readied : Readied (take l.i l.batch) l.fn.families l.families;
  turned : AreTurnedBy (take l.i l.batch) l.fn.families l.families;
}
