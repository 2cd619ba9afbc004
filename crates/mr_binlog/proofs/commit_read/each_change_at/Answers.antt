use Rattle.mr_fields.specs.Fields.{listed_in}
use Rattle.mr_fields.proofs.Lists.{goes_on}
use Rattle.mr_binlog.specs.CommitForm.{change_in}
use Rattle.mr_binlog.proofs.commit_read.each_change_at.Goals as goal

pub reading-preserved : goal.reading-preserved
reading-preserved c =
    goes_on change_in (listed_in change_in c.args.count c.args.bytes.now) c.reading.changes c.args.count c.reading.i c.reading.rest.now
    c.reading-test.true c.reading.invariant c.push.new.self c.in_ok-change.change c.in_ok-change.behind.now c.in_ok-change.ensures c.in_ok-push.ensures.ok
