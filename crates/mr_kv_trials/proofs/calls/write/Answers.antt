use Rattle.std.proofs.Common.{arith}
use Rattle.mr_kv_trials.proofs.calls.write.Goals as goal

pub write-requires-clause-short : goal.write-requires-clause-short
write-requires-clause-short c = omega (arith, c.plain_length.ensures 0 0)
