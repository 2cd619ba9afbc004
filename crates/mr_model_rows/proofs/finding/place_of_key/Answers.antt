use Rattle.std.proofs.Common.{arith}
use Rattle.mr_model_rows.proofs.Searching.{lower_at}
use Rattle.mr_model_rows.proofs.finding.place_of_key.Goals as goal

pub returns : goal.returns
returns c = lower_at c.args.def.now c.args.key.now c.args.rows.now c.halving.low c.halving.high c.requires.rising c.halving.invariant.order (omega arith) c.halving.invariant.within c.halving.invariant.before c.halving.invariant.behind
