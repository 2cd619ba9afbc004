use Rattle.std.proofs.Common.{◌≡◌, ℕ, take}
use Rattle.mr_families.specs.Known.{family_at}
use Rattle.mr_families.specs.Batches.{AreKnown}
use Rattle.mr_store_memory.proofs.readying.learn_others.Given as goal

abbrev pub invariant-learning : goal.invariant-learning
invariant-learning l = record {
  same : (f : ℕ) → family_at l.families f ≡ family_at l.fn.families f;
  known : AreKnown l.families (take l.i l.batch);
}
