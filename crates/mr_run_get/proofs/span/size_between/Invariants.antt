use Rattle.std.proofs.Common.{◌≡◌}
use Rattle.mr_run_get.specs.Get.{between, sizes}
use Rattle.mr_run_get.proofs.span.size_between.Given as goal

abbrev pub invariant-adding : goal.invariant-adding
invariant-adding l = l.total ≡ sizes (between l.first l.i l.run.index.blocks)
