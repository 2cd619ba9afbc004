use Rattle.std.proofs.Common.{◌+◌, ◌-◌, ◌∷◌, ◌++◌, [], List, ◌∙◌, ap, sym}
use Rattle.mr_wal.specs.declared.operation.Operation.{Operation}
use Rattle.mr_wal.specs.EngineLog.{operations_in}
use Rattle.mr_wal.specs.Given.{with_front}
use Rattle.mr_wal.specs.Operations.{operation_of}
use Rattle.mr_wal.proofs.Batches.{one_more, broken}
use Rattle.mr_wal.proofs.read.read_operations.Goals as goal

pub returns-in-Err : goal.returns-in-Err
returns-in-Err c = c.reading.invariant ∙ broken c.reading.batch c.args.count c.reading.i c.reading.rest.now c.reading-test.true c.in-Err.left c.in-Err.ensures.read

pub reading-preserved : goal.reading-preserved
reading-preserved c =
    c.reading.invariant
    ∙ one_more c.reading.batch c.args.count c.reading.i c.reading.rest.now c.reading-test.true (operation_of c.in-Ok.read.0) c.in-Ok.read.1.now c.in-Ok.ensures.read
    ∙ ap (λ (os : List Operation). with_front os (operations_in (c.args.count - (c.reading.i + 1)) c.in-Ok.read.1.now)) (ap (λ (o : Operation). c.reading.batch ++ o ∷ []) (sym c.in-Ok-copy_operation.ensures) ∙ sym c.in-Ok-push.ensures.ok)
