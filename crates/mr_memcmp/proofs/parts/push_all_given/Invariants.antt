use Rattle.std.proofs.Common.{◌≡◌, ◌++◌, drop}
use Rattle.mr_memcmp.specs.Parts.{given_parts}
use Rattle.mr_memcmp.proofs.parts.push_all_given.Given as goal

abbrev pub invariant-loop-i : goal.invariant-loop-i
invariant-loop-i l = l.out.items ++ given_parts l.columns (drop l.i l.places) (drop l.i l.values) ≡ l.fn.out.items ++ given_parts l.columns l.places l.values
