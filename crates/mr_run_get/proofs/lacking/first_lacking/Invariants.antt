use Rattle.mr_run_get.specs.Get.{AllHeld}
use Rattle.mr_run_get.proofs.lacking.first_lacking.Given as goal

abbrev pub invariant-seeking : goal.invariant-seeking
invariant-seeking l = AllHeld l.run l.cache l.first l.i
