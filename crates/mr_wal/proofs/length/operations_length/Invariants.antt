use Rattle.std.proofs.Common.{◌≡◌, ◌-◌, ◌^◌, length, min, take}
use Rattle.mr_wal.specs.EngineLog.{operations_bytes}
use Rattle.mr_wal.proofs.length.operations_length.Given as goal

abbrev pub invariant-adding : goal.invariant-adding
invariant-adding l = l.total ≡ min (length (operations_bytes (take l.operation-index l.operations))) (2 ^ 64 - 1)
