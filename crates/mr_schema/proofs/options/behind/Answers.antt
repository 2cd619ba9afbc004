use Rattle.mr_schema.proofs.Fronts.{behind_is}
use Rattle.mr_schema.proofs.options.behind.Goals as goal

pub returns : goal.returns
returns c = behind_is c.args.front.now c.args.bytes.now c.strip_prefix.result c.strip_prefix.ensures.cases
