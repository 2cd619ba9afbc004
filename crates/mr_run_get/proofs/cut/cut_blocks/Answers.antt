use Rattle.std.proofs.Common.{arith}
use Rattle.mr_run_get.proofs.Cutting.{cut_next, cut_stops}
use Rattle.mr_run_get.proofs.cut.cut_blocks.Goals as goal

pub returns-in-Err-clause-err : goal.returns-in-Err-clause-err
returns-in-Err-clause-err c = cut_stops c.args.run.now.file c.args.bytes.now c.args.low c.cutting.i c.args.high c.cutting.from c.args.run.now.index.blocks c.in-Err.stop c.cutting.auto.i c.cutting-test.true c.requires.within c.cutting.invariant.0 c.in-Err.ensures.err

pub cutting-preserved : goal.cutting-preserved
cutting-preserved c = cut_next c.args.bytes.now c.args.low c.cutting.i c.cutting.from c.place_of_block.result.size c.args.run.now.index.blocks c.cutting.blocks.items c.push.new.self.items c.in-Ok.block c.cutting.auto.i (omega (arith, c.cutting-test.true, c.requires.within)) c.cutting.invariant.0 c.cutting.invariant.1 c.cutting.invariant.2 c.in-Ok.ensures.ok c.in_ok-push.ensures.items c.place_of_block.ensures.size
