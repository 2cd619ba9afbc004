use Rattle.mr_compact.proofs.Choice.{going_other}
use Rattle.mr_compact.proofs.choosing.going.Goals as goal

pub returns : goal.returns
returns c = going_other c.args.level c.args.spans.now c.oldest.result.now c.if-level-eq0.false c.oldest.ensures
