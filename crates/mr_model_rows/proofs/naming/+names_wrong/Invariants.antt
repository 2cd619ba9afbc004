use Rattle.std.proofs.Common.{◌≡◌, map, drop}
use Rattle.std.specs.List.{list_any}
use Rattle.mr_spec.specs.Truth.{has_wrong_literal}
use Rattle.mr_model_rows.specs.Naming.{some_named}
use Rattle.mr_model_rows.proofs.naming.+names_wrong.Given as goal

abbrev pub invariant-loop-part : goal.invariant-loop-part
invariant-loop-part l = list_any (λ b. b) (map (some_named (has_wrong_literal l.def)) (drop l.part-index l.part-items)) ≡ list_any (λ b. b) (map (some_named (has_wrong_literal l.def)) l.part-items)

abbrev pub invariant-loop-choice : goal.invariant-loop-choice
invariant-loop-choice l = list_any (λ b. b) (map (some_named (has_wrong_literal l.def)) (drop l.choice-index l.choice-items)) ≡ list_any (λ b. b) (map (some_named (has_wrong_literal l.def)) l.choice-items)
