use Rattle.std.proofs.Common.{arith}
use Rattle.mr_run_get.proofs.Fronts.{shared_next}
use Rattle.mr_run_get.proofs.fetch.share_blocks.Goals as goal

pub sharing-preserved : goal.sharing-preserved
sharing-preserved c = shared_next c.args.run.now c.args.cache.now c.args.first c.sharing.i c.span_of.result c.sharing.blocks.items c.push.new.self.items c.in_ok-block.block c.sharing.auto.i (omega (arith, c.sharing-test.true, c.requires.within))
    c.sharing.invariant c.span_of.ensures c.in_ok-block.ensures c.in-Ok.ensures.items
