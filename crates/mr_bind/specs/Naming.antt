-- The columns that a condition names, layer by layer.
use Rattle.std.specs.Prelude.{Bool, [], ◌∷◌}
use Rattle.std.specs.List.{list_any}
use Rattle.mr_types.specs.declared.expr.Expr.{Expr, fold-Expr}
use Rattle.mr_types.specs.declared.expr.Expr.TheOpen.{Expr-F, Compare, IsNull, Between, OneOf, Not, And, Or}
use Rattle.mr_spec.specs.Truth.{Named}

-- one layer, whose parts have been tested already
abbrev pub layer_some : (Named → Bool) → Expr-F Bool → Bool
layer_some test (Compare name cmp v) = test (record { column = name; literals = v ∷ [] })
layer_some test (IsNull name) = test (record { column = name; literals = [] })
layer_some test (Between name a b) = test (record { column = name; literals = a ∷ b ∷ [] })
layer_some test (OneOf name vs) = test (record { column = name; literals = vs })
layer_some test (Not part) = part
layer_some test (And parts) = list_any (λ part. part) parts
layer_some test (Or parts) = list_any (λ part. part) parts

-- some column that the condition names, with the literals beside it, passes the test
abbrev pub some_named : (Named → Bool) → Expr → Bool
some_named test e = fold-Expr Bool (layer_some test) e
