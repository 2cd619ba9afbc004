use Rattle.std.proofs.Common.{◌≡◌, IfSome, map, drop}
use Rattle.mr_spec.specs.Truth.{all_of, and_of, any_of, or_of}
use Rattle.mr_spec.specs.Binding.{bound_truth}
use Rattle.mr_expr.proofs.truth.+holds.Given as goal

abbrev pub invariant-loop-part : goal.invariant-loop-part
invariant-loop-part g l = IfSome (g.F.Fields.current l.fields) (λ r. and_of l.all (all_of (map (bound_truth (g.F.Fields.def l.fields) r) (drop l.part-index l.part-items))) ≡ all_of (map (bound_truth (g.F.Fields.def l.fields) r) l.part-items))

abbrev pub invariant-loop-choice : goal.invariant-loop-choice
invariant-loop-choice g l = IfSome (g.F.Fields.current l.fields) (λ r. or_of l.some (any_of (map (bound_truth (g.F.Fields.def l.fields) r) (drop l.choice-index l.choice-items))) ≡ any_of (map (bound_truth (g.F.Fields.def l.fields) r) l.choice-items))
