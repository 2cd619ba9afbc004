use Rattle.std.proofs.Common.{◌++◌, List, ℕ, take, ◌∙◌, sym, ap, append_assoc}
use Rattle.mr_wal.specs.Operations.{operation_bytes}
use Rattle.mr_wal.specs.EngineLog.{operations_bytes}
use Rattle.mr_wal.proofs.WritingLaws.{operations_take, fitting_take}
use Rattle.mr_wal.proofs.write.write_operations.Goals as goal

pub writing-preserved : goal.writing-preserved
writing-preserved c = record {
  written = c.in_ok-write_operation.ensures.written
      ∙ ap (λ (x : List ℕ). x ++ operation_bytes c.operation-item.result) c.writing.invariant.written
      ∙ append_assoc c.args.out.now.items (operations_bytes (take c.writing.operation-index c.args.operations.now)) (operation_bytes c.operation-item.result)
      ∙ ap (λ (x : List ℕ). c.args.out.now.items ++ x) (sym (operations_take c.args.operations.now c.writing.operation-index c.operation-item.result c.writing-test.true c.operation-item.is));
  fits = fitting_take c.args.operations.now c.writing.operation-index c.operation-item.result c.writing-test.true c.operation-item.is c.writing.invariant.fits c.in_ok-write_operation.ensures.fits;
}
