use Rattle.std.proofs.Common.{◌≡◌, drop}
use Rattle.mr_types.specs.FieldValues.{field_value}
use Rattle.mr_spec.specs.Truth.{or_of}
use Rattle.mr_expr.specs.Among.{one_among}
use Rattle.mr_expr.proofs.comparing.among.Given as goal

abbrev pub invariant-loop-literal : goal.invariant-loop-literal
invariant-loop-literal l = or_of l.truth (one_among l.kind (field_value l.kind l.field) (drop l.literal-index l.literals)) ≡ one_among l.kind (field_value l.kind l.field) l.literals
