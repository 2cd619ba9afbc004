-- A condition's literals converted in one pass, whose columns are there.
use Rattle.std.specs.Prelude.{ℕ, List, Result, Ok}
use Rattle.mr_types.specs.declared.expr.Expr.{Expr, fold-Expr}
use Rattle.mr_types.specs.declared.expr.Expr.TheOpen as written
use Rattle.mr_types.specs.declared.definition.TableDef.{TableDef}
use Rattle.mr_types.specs.Refusals.{◌>>=◌, each}
use Rattle.mr_types.specs.Values.{convert_to}
use Rattle.mr_spec.specs.declared.bound.Bound.{Bound}
use Rattle.mr_spec.specs.declared.bound.Bound.TheVariants as bound
use Rattle.mr_spec.specs.Rows.{kind_at}
use Rattle.mr_spec.specs.Binding.{place_or_first}

-- all answers, or the first refusal
abbrev pub gathered : List (Result Bound ℕ) → Result (List Bound) ℕ
gathered parts = each (λ part. part) parts

-- one layer, whose parts are converted already
abbrev pub converted_layer : TableDef → written.Expr-F (Result Bound ℕ) → Result Bound ℕ
converted_layer def (written.Compare name cmp v) = do
  w ← convert_to (kind_at def (place_or_first def name)) v
  Ok (bound.Compare (place_or_first def name) cmp w)
converted_layer def (written.IsNull name) = Ok (bound.IsNull (place_or_first def name))
converted_layer def (written.Between name a b) = do
  low ← convert_to (kind_at def (place_or_first def name)) a
  high ← convert_to (kind_at def (place_or_first def name)) b
  Ok (bound.Between (place_or_first def name) low high)
converted_layer def (written.OneOf name vs) = do
  ws ← each (convert_to (kind_at def (place_or_first def name))) vs
  Ok (bound.OneOf (place_or_first def name) ws)
converted_layer def (written.Not part) = do
  b ← part
  Ok (bound.Not b)
converted_layer def (written.And parts) = do
  bs ← gathered parts
  Ok (bound.And bs)
converted_layer def (written.Or parts) = do
  bs ← gathered parts
  Ok (bound.Or bs)

-- the bound condition, or 1366 where a literal isn't converted
abbrev pub converted_of : TableDef → Expr → Result Bound ℕ
converted_of def e = fold-Expr (Result Bound ℕ) (converted_layer def) e
