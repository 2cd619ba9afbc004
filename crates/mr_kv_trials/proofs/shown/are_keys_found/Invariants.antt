use Rattle.mr_kv_trials.specs.Silent.{IsReadyOver}
use Rattle.mr_kv_trials.proofs.shown.are_keys_found.Given as goal

abbrev pub invariant-finding : goal.invariant-finding
invariant-finding l = IsReadyOver l.disk.host l.kv
