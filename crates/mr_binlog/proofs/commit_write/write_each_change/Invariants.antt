use Rattle.std.proofs.Common.{◌≡◌, ◌++◌, take}
use Rattle.std.specs.List.{AllByRecursion}
use Rattle.mr_fields.specs.Fields.{listed_bytes}
use Rattle.mr_spec.specs.Rows.{rows_of}
use Rattle.mr_binlog.specs.CommitForm.{change_bytes}
use Rattle.mr_binlog.specs.CommitFitting.{HasSmallNumbers, ChangeHasPlace}
use Rattle.mr_binlog.proofs.commit_write.write_each_change.Given as goal

abbrev pub invariant-writing : goal.invariant-writing
invariant-writing l = (l.out.items ≡ l.fn.out.items ++ listed_bytes change_bytes (take l.change-index l.changes)) × AllByRecursion (λ change. AllByRecursion HasSmallNumbers (rows_of change)) (take l.change-index l.changes) × AllByRecursion ChangeHasPlace (take l.change-index l.changes)
