use Rattle.mr_kv_trials.specs.Silent.{IsReadyOver}
use Rattle.mr_kv_trials.proofs.short.always_tells.Given as goal

abbrev pub invariant-telling : goal.invariant-telling
invariant-telling l = IsReadyOver l.disk.host l.kv
