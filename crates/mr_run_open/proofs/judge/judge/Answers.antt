use Rattle.std.proofs.Common.{arith, ap, length}
use Rattle.mr_run_open.proofs.Sizes.{block_long, offence_within}
use Rattle.mr_run_open.proofs.judge.judge.Goals as goal

pub overflow_add-result : goal.overflow_add-result
overflow_add-result c = omega (arith, offence_within c.args.bytes c.in-Err.malformed.0 c.in-Err.ensures.err, c.requires)

pub returns-in-Ok-judge_first-clause-few : goal.returns-in-Ok-judge_first-clause-few
returns-in-Ok-judge_first-clause-few c = omega (arith, block_long c.in-Ok.block, ap length c.in-Ok.ensures.form)
