use Rattle.std.proofs.Common.{◌≡◌, ◌-◌}
use Rattle.mr_wal.specs.EngineLog.{operations_in}
use Rattle.mr_wal.specs.Given.{with_front}
use Rattle.mr_wal.proofs.read.read_operations.Given as goal

abbrev pub invariant-reading : goal.invariant-reading
invariant-reading l = operations_in l.count l.bytes ≡ with_front l.batch (operations_in (l.count - l.i) l.rest)
