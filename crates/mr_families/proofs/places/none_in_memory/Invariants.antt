use Rattle.std.proofs.Common.{◌≡◌, drop}
use Rattle.mr_families.specs.Known.{are_out_of_memory}
use Rattle.mr_families.proofs.places.none_in_memory.Given as goal

abbrev pub invariant-looking : goal.invariant-looking
invariant-looking l = are_out_of_memory l.list ≡ are_out_of_memory (drop l.i l.list)
