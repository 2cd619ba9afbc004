use Rattle.std.proofs.Common.{sym, ap, arith}
use Rattle.mr_run_get.specs.Get.{sizes}
use Rattle.mr_run_get.proofs.Between.{between_none, sizes_next}
use Rattle.mr_run_get.proofs.span.size_between.Goals as goal

pub adding-init : goal.adding-init
adding-init c = sym (ap sizes (between_none c.args.first c.args.run.now.index.blocks))

pub adding-preserved : goal.adding-preserved
adding-preserved c = omega (arith, c.in_ok-total.ensures, c.adding.invariant, c.place_of_block.ensures.size, sizes_next c.args.first c.adding.i c.args.run.now.index.blocks c.adding.auto.i (omega (arith, c.adding-test.true, c.requires.within)))
