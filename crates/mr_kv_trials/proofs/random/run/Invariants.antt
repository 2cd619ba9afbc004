use Rattle.mr_kv_trials.specs.Silent.{IsReadyOver}
use Rattle.mr_kv_trials.proofs.random.run.Given as goal

abbrev pub invariant-stepping : goal.invariant-stepping
invariant-stepping l = IsReadyOver l.disk.host l.kv
