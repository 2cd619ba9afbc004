use Rattle.std.proofs.Common.{◌≡◌, map, take}
use Rattle.mr_exec.specs.Gathering.{value_found}
use Rattle.mr_exec.proofs.found.values_of.Given as goal

abbrev pub invariant-loop-found : goal.invariant-loop-found
invariant-loop-found l = l.values ≡ map value_found (take l.found-index l.all)
