use Rattle.std.proofs.Common.{length}
use Rattle.mr_run.proofs.part.empty.Given as goal

abbrev pub decreases-loop-bytes : goal.decreases-loop-bytes
decreases-loop-bytes l = length l.bytes
