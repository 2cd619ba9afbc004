use Rattle.std.proofs.Common.{arith}
use Rattle.mr_kv_trials.proofs.calls.prepare.Goals as goal

pub prepare-requires-clause-short : goal.prepare-requires-clause-short
prepare-requires-clause-short c = omega (arith, c.prepare_length.ensures 0 0 0)
