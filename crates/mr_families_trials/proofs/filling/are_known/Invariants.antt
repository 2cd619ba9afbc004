use Rattle.std.proofs.Common.{take}
use Rattle.mr_families.specs.Batches.{AreKnown}
use Rattle.mr_families_trials.proofs.filling.are_known.Given as goal

abbrev pub invariant-looking : goal.invariant-looking
invariant-looking l = AreKnown l.families (take l.i l.batch)
