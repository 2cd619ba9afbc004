use Rattle.std.proofs.Common.{◌≡◌, drop}
use Rattle.mr_spec.specs.Truth.{or_of, one_of, field_of}
use Rattle.mr_model_rows.proofs.truth.one_of.Given as goal

abbrev pub invariant-loop-literal : goal.invariant-loop-literal
invariant-loop-literal l = or_of l.truth (one_of (field_of l.def l.row l.name) (drop l.literal-index l.literals)) ≡ one_of (field_of l.def l.row l.name) l.literals
