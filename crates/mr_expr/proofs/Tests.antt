-- What holds of the row that is there.
use Rattle.std.proofs.Common.{◌≡◌, ℕ, List, [], ◌∷◌, IfSome, Option, Some, None, refl, ap}
use Rattle.mr_types.specs.declared.definition.TableDef.{TableDef}
use Rattle.mr_types.specs.declared.expr.Cmp.TheVariants.{Eq}
use Rattle.mr_types.specs.declared.row.Row.{Row}
use Rattle.mr_types.specs.declared.value.Value.{Value}
use Rattle.mr_spec.specs.Rows.{kind_at, value_at}
use Rattle.mr_spec.specs.Truth.{or_of}
use Rattle.mr_spec.specs.Binding.{test_at, one_at}
use Rattle.mr_expr.specs.Among.{one_among}

pub if_some : (o : Option Row) (P Q : Row → Type 0) → ((r : Row) → P r → Q r) → IfSome o P → IfSome o Q
if_some None P Q so h = h
if_some (Some r) P Q so h = so r h

-- IN at a place is IN of the value there
pub among_at : (def : TableDef) (row : Row) (i : ℕ) (vs : List Value) → one_among (kind_at def i) (value_at row i) vs ≡ one_at def row i vs
among_at def row i [] = refl
among_at def row i (v ∷ vs) = ap (or_of (test_at def row i Eq v)) (among_at def row i vs)
