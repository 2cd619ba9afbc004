use Rattle.std.proofs.Common.{◌≡◌, ◌++◌, drop, Ok}
use Rattle.mr_types.specs.Refusals.{◌>>=◌, each}
use Rattle.mr_types.specs.Values.{convert_to}
use Rattle.mr_bind.proofs.binding.converted.Given as goal

abbrev pub invariant-loop-literal : goal.invariant-loop-literal
invariant-loop-literal l = each (convert_to l.kind) l.literals ≡ (each (convert_to l.kind) (drop l.literal-index l.literals) >>= (λ rest. Ok (l.values ++ rest)))
