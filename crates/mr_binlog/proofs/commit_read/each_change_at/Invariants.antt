use Rattle.std.proofs.Common.{◌≡◌, ◌-◌}
use Rattle.mr_fields.specs.Fields.{listed_in}
use Rattle.mr_fields.specs.Given.{with_front}
use Rattle.mr_binlog.specs.CommitForm.{change_in}
use Rattle.mr_binlog.proofs.commit_read.each_change_at.Given as goal

abbrev pub invariant-reading : goal.invariant-reading
invariant-reading l = listed_in change_in l.count l.bytes ≡ with_front l.changes (listed_in change_in (l.count - l.i) l.rest)
