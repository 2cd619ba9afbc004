use Rattle.mr_dict.specs.Given.{passed_key}
use Rattle.mr_dict.proofs.Carrying.{stops_here}
use Rattle.mr_dict.proofs.loading.take_version.Goals as goal

pub returns-clause-stops : goal.returns-clause-stops
returns-clause-stops g c = stops_here (g.C.Listed.cursor c.args.cursor.now).current (passed_key c.args.passed.now) c.key.result.now c.key-3.result.now c.value.result.now c.is_of.result c.is_put.result c.put_read.result
    c.key.ensures c.key-3.ensures c.value.ensures c.is_put.ensures c.is_of.ensures c.if-is_of.false c.if-not-is_put.false c.put_read.ensures.stops
