use Rattle.std.proofs.Common.{arith}
use Rattle.mr_engine_log_trials.proofs.steps.write.Goals as goal

pub write-requires-clause-short : goal.write-requires-clause-short
write-requires-clause-short g c = omega (arith, c.plain_length.ensures 0 0)
