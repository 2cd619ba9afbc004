use Rattle.std.proofs.Common.{arith}
use Rattle.mr_run_open.proofs.Sizes.{block_long}
use Rattle.mr_run_open.proofs.judge.judge_first.Goals as goal

pub overflow_mul-at : goal.overflow_mul-at
overflow_mul-at c = omega (arith, block_long c.args.block.now, c.requires, c.count-count.ensures)

pub overflow_add-at-2 : goal.overflow_add-at-2
overflow_add-at-2 c = omega (arith, block_long c.args.block.now, c.requires, c.count-count.ensures)

pub overflow_add-result : goal.overflow_add-result
overflow_add-result c = omega (arith, block_long c.args.block.now, c.requires, c.count-count.ensures, c.if-count-eq0.false)
