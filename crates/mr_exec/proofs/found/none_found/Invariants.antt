use Rattle.std.proofs.Common.{◌≡◌, map, take}
use Rattle.mr_exec.specs.Gathering.{found_none}
use Rattle.mr_exec.proofs.found.none_found.Given as goal

abbrev pub invariant-loop-aggregate : goal.invariant-loop-aggregate
invariant-loop-aggregate l = l.all.items ≡ map found_none (take l.aggregate-index l.aggregates)
