-- IN, of a value.
use Rattle.std.specs.Prelude.{List, [], ◌∷◌}
use Rattle.mr_types.specs.declared.value.Value.{Value}
use Rattle.mr_types.specs.declared.kind.Kind.{Kind}
use Rattle.mr_types.specs.declared.expr.Cmp.TheVariants.{Eq}
use Rattle.mr_spec.specs.declared.truth.Truth.{Truth}
use Rattle.mr_spec.specs.declared.truth.Truth.TheVariants.{False}
use Rattle.mr_spec.specs.Truth.{compared, or_of}

-- one of these literals is the same; unknown where none is, and one or the value is NULL
abbrev pub one_among : Kind → Value → List Value → Truth
one_among kind v [] = False
one_among kind v (w ∷ ws) = or_of (compared kind v Eq w) (one_among kind v ws)
