use Rattle.std.proofs.Common.{◌≡◌, map, drop}
use Rattle.mr_spec.specs.Truth.{truth_of, all_of, and_of, any_of, or_of}
use Rattle.mr_model_rows.proofs.truth.+truth_of.Given as goal

abbrev pub invariant-loop-part : goal.invariant-loop-part
invariant-loop-part l = and_of l.all (all_of (map (truth_of l.def l.row) (drop l.part-index l.part-items))) ≡ all_of (map (truth_of l.def l.row) l.part-items)

abbrev pub invariant-loop-choice : goal.invariant-loop-choice
invariant-loop-choice l = or_of l.some (any_of (map (truth_of l.def l.row) (drop l.choice-index l.choice-items))) ≡ any_of (map (truth_of l.def l.row) l.choice-items)
