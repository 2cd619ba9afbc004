use Rattle.std.proofs.Common.{◌≡◌, ◌++◌, take}
use Rattle.std.specs.List.{AllByRecursion}
use Rattle.mr_wal.specs.EngineLog.{operations_bytes}
use Rattle.mr_wal.specs.Fitting.{OperationFits}
use Rattle.mr_wal.proofs.write.write_operations.Given as goal

abbrev pub invariant-writing : goal.invariant-writing
invariant-writing l = record {
  written : l.out.items ≡ l.fn.out.items ++ operations_bytes (take l.operation-index l.operations);
  fits : AllByRecursion OperationFits (take l.operation-index l.operations);
}
