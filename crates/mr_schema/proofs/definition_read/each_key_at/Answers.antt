use Rattle.mr_fields.specs.Fields.{listed_in}
use Rattle.mr_fields.proofs.Lists.{goes_on}
use Rattle.mr_schema.specs.DefinitionForm.{key_in}
use Rattle.mr_schema.proofs.definition_read.each_key_at.Goals as goal

pub reading-preserved : goal.reading-preserved
reading-preserved c =
    goes_on (key_in c.args.limit) (listed_in (key_in c.args.limit) c.args.count c.args.bytes.now) c.reading.keys c.args.count c.reading.i c.reading.rest.now
    c.reading-test.true c.reading.invariant c.push.new.self c.in_ok-key.key c.in_ok-key.behind.now c.in_ok-key.ensures c.in_ok-push.ensures.ok
