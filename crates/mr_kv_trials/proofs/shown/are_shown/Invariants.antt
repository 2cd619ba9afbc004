use Rattle.mr_kv_trials.specs.Silent.{IsReadyOver}
use Rattle.mr_kv_trials.proofs.shown.are_shown.Given as goal

abbrev pub invariant-showing : goal.invariant-showing
invariant-showing l = IsReadyOver l.disk.host l.kv
