use Rattle.std.proofs.Common.{◌≡◌, map, drop}
use Rattle.std.specs.List.{list_any}
use Rattle.mr_spec.specs.Truth.{is_unknown}
use Rattle.mr_bind.specs.Naming.{some_named}
use Rattle.mr_bind.proofs.names.+names_unknown.Given as goal

abbrev pub invariant-loop-part : goal.invariant-loop-part
invariant-loop-part l = list_any (λ b. b) (map (some_named (λ n. is_unknown l.def n.column)) (drop l.part-index l.part-items)) ≡ list_any (λ b. b) (map (some_named (λ n. is_unknown l.def n.column)) l.part-items)

abbrev pub invariant-loop-choice : goal.invariant-loop-choice
invariant-loop-choice l = list_any (λ b. b) (map (some_named (λ n. is_unknown l.def n.column)) (drop l.choice-index l.choice-items)) ≡ list_any (λ b. b) (map (some_named (λ n. is_unknown l.def n.column)) l.choice-items)
