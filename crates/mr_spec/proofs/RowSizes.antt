-- The bytes of a row's form are those that its weight counts.
use Rattle.std.proofs.Common.{◌≡◌, ℕ, pos, negsuc, ◌++◌, List, [], ◌∷◌, Option, Some, None, length, refl, arith, length-append}
use Rattle.byteorder.specs.Endian.{big_bytes}
use Rattle.mr_types.specs.declared.value.Value.{Value}
use Rattle.mr_types.specs.declared.value.Value.TheVariants.{Null, Number, Text, Bytes}
use Rattle.mr_types.specs.declared.row.Row.{Row}
use Rattle.mr_spec.specs.RowForm.{value_bytes, values_bytes, row_bytes, given_bytes}
use Rattle.mr_spec.specs.Weight.{value_size, values_size, row_size, given_size}

value-length : (v : Value) → length (value_bytes v) ≡ value_size v
value-length Null = refl
value-length (Number (pos n)) = refl
value-length (Number (negsuc n)) = refl
value-length (Text text) = omega (arith, length-append (big_bytes 2 (length text)) text)
value-length (Bytes bytes) = omega (arith, length-append (big_bytes 2 (length bytes)) bytes)

given-length : (n : Option ℕ) → length (given_bytes n) ≡ given_size n
given-length None = refl
given-length (Some n) = refl

values-length : (vs : List Value) → length (values_bytes vs) ≡ values_size vs
values-length [] = refl
values-length (v ∷ vs) = omega (arith, length-append (value_bytes v) (values_bytes vs), value-length v, values-length vs)

-- a row's form has the bytes that its weight counts
pub row-length : (r : Row) → length (row_bytes r) ≡ row_size r
row-length r = omega (
  arith,
  given-length r.hidden,
  given-length r.stamp,
  values-length r.fields,
  length-append (given_bytes r.hidden) (given_bytes r.stamp ++ (length r.fields ∷ values_bytes r.fields)),
  length-append (given_bytes r.stamp) (length r.fields ∷ values_bytes r.fields),
)
