use Rattle.std.proofs.Common.{◌≡◌, drop, is_err}
use Rattle.std.specs.List.{list_any}
use Rattle.mr_types.specs.Values.{convert_to}
use Rattle.mr_model_rows.proofs.naming.has_wrong_literal.Given as goal

abbrev pub invariant-loop-literal : goal.invariant-loop-literal
invariant-loop-literal l = list_any (λ v. is_err (convert_to l.kind v)) (drop l.literal-index l.literals) ≡ list_any (λ v. is_err (convert_to l.kind v)) l.literals
