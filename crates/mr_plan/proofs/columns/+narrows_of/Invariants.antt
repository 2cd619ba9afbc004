use Rattle.std.proofs.Common.{◌≡◌, map, drop}
use Rattle.std.specs.List.{list_any, list_all}
use Rattle.mr_plan.specs.Columns.{narrows_of}
use Rattle.mr_plan.proofs.columns.+narrows_of.Given as goal

abbrev pub invariant-loop-part : goal.invariant-loop-part
invariant-loop-part l = list_any (λ b. b) (map (narrows_of l.place) (drop l.part-index l.part-items)) ≡ list_any (λ b. b) (map (narrows_of l.place) l.part-items)

abbrev pub invariant-loop-choice : goal.invariant-loop-choice
invariant-loop-choice l = list_all (λ b. b) (map (narrows_of l.place) (drop l.choice-index l.choice-items)) ≡ list_all (λ b. b) (map (narrows_of l.place) l.choice-items)
