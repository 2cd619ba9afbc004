use Rattle.std.proofs.Common.{◌≡◌, ◌++◌, ◌∷◌, drop}
use Rattle.std.specs.List.{flat_map}
use Rattle.mr_spec.specs.ReplyText.{field_text}
use Rattle.mr_print.proofs.replies.write_further.Given as goal

abbrev pub invariant-loop-value : goal.invariant-loop-value
invariant-loop-value l = l.text.items ++ flat_map (λ v. 9 ∷ field_text v) (drop l.value-index l.values) ≡ l.initial.text.items ++ flat_map (λ v. 9 ∷ field_text v) l.values
