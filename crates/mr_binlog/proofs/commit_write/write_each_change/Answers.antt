use Rattle.std.proofs.Common.{refl}
use Rattle.std.specs.List.{AllByRecursion}
use Rattle.mr_fields.specs.Fields.{listed_bytes}
use Rattle.mr_fields.proofs.Lists.{wrote}
use Rattle.mr_spec.specs.Rows.{rows_of}
use Rattle.mr_binlog.specs.CommitForm.{change_bytes}
use Rattle.mr_binlog.specs.CommitFitting.{HasSmallNumbers, ChangeHasPlace}
use Rattle.mr_binlog.proofs.Numbers.{one_more}
use Rattle.mr_binlog.proofs.commit_write.write_each_change.Goals as goal

pub writing-preserved : goal.writing-preserved
writing-preserved c = (
  wrote change_bytes (listed_bytes change_bytes) refl (λ x xs. refl) c.args.changes.now c.writing.change-index c.change-item.result c.args.out.now.items c.writing.out.items c.write_change.new.out.items c.writing-test.true c.change-item.is c.writing.invariant.0 c.in_ok-write_change.ensures.written,
  one_more (λ change. AllByRecursion HasSmallNumbers (rows_of change)) c.args.changes.now c.writing.change-index c.change-item.result c.writing-test.true c.change-item.is c.writing.invariant.1 c.in_ok-write_change.ensures.numbers,
  one_more ChangeHasPlace c.args.changes.now c.writing.change-index c.change-item.result c.writing-test.true c.change-item.is c.writing.invariant.2 c.in_ok-write_change.ensures.place,
)
