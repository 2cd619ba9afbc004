use Rattle.std.proofs.Common.{◌≡◌, ◌++◌, drop, Ok}
use Rattle.std.specs.List.{enumerate_from}
use Rattle.mr_types.specs.Refusals.{◌>>=◌, each}
use Rattle.mr_spec.specs.NewRows.{assigned, item_for, fields_of}
use Rattle.mr_model_changes.proofs.tuples.fields_of.Given as goal

abbrev pub invariant-loop-i : goal.invariant-loop-i
invariant-loop-i l = fields_of l.def l.at l.tuple ≡ (each (λ p. assigned p.1 (item_for l.at l.tuple p.0)) (enumerate_from l.i (drop l.i l.column-items)) >>= (λ rest. Ok (l.fields ++ rest)))
