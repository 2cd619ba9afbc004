use Rattle.std.proofs.Common.{◌≡◌, ◌-◌, ◌^◌, length, min, take, arith}
use Rattle.mr_wal.specs.Operations.{operation_bytes}
use Rattle.mr_wal.specs.EngineLog.{operations_bytes}
use Rattle.mr_wal.proofs.Lengths.{one_more}
use Rattle.mr_wal.proofs.length.operations_length.Goals as goal

pub adding-preserved : goal.adding-preserved
adding-preserved c =
    let more = one_more c.args.operations.now c.adding.operation-index c.operation-item.result c.adding-test.true c.operation-item.is in
    let before : c.adding.total ≡ min (length (operations_bytes (take c.adding.operation-index c.args.operations.now))) (2 ^ 64 - 1) = c.adding.invariant in
    let one : c.operation_length.result ≡ min (length (operation_bytes c.operation-item.result)) (2 ^ 64 - 1) = c.operation_length.ensures in
    omega (arith, more, before, one, c.saturating_add-total.ensures)
