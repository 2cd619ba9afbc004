use Rattle.std.proofs.Common.{◌≡◌, ◌++◌, map, drop, Ok}
use Rattle.mr_types.specs.Refusals.{◌>>=◌}
use Rattle.mr_bind.specs.Converting.{gathered, converted_of}
use Rattle.mr_bind.proofs.binding.+bound_of.Given as goal

abbrev pub invariant-loop-part : goal.invariant-loop-part
invariant-loop-part l = gathered (map (converted_of l.def) l.part-items) ≡ (gathered (map (converted_of l.def) (drop l.part-index l.part-items)) >>= (λ rest. Ok (l.all ++ rest)))

abbrev pub invariant-loop-choice : goal.invariant-loop-choice
invariant-loop-choice l = gathered (map (converted_of l.def) l.choice-items) ≡ (gathered (map (converted_of l.def) (drop l.choice-index l.choice-items)) >>= (λ rest. Ok (l.some ++ rest)))
