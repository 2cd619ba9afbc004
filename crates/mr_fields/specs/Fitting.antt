-- Values and rows whose numbers and lengths are in their fields.
use Rattle.std.specs.Prelude.{◌≡◌, ℕ, ℤ, pos, negsuc, ◌<◌, ◌^◌, true, List, ◌∷◌, length, Option, Some, None, ⊤}
use Rattle.std.specs.List.{AllByRecursion}
use Rattle.mr_types.specs.declared.value.Value.{Value}
use Rattle.mr_types.specs.declared.value.Value.TheVariants.{Null, Number, Text, Bytes}
use Rattle.mr_types.specs.declared.row.Row.{Row}
use Rattle.std.specs.Int.{cast_unsigned, w64}
use Rattle.byteorder.specs.Endian.{big_bytes}
use Rattle.mr_fields.specs.Fields.{is_name, is_text}

pub record NameFits (name : List ℕ) : Type 0 where
  pub short : length name < 2 ^ 8
  pub is_name : is_name name ≡ true

pub record TextFits (text : List ℕ) : Type 0 where
  pub short : length text < 2 ^ 16
  pub is_text : is_text text ≡ true

-- from -2^63 to 2^64 - 1
abbrev pub NumberFits : ℤ → Type 0
NumberFits (pos n) = n < 2 ^ 64
NumberFits (negsuc n) = n < 2 ^ 63

abbrev pub ValueFits : Value → Type 0
ValueFits Null = ⊤
ValueFits (Number n) = NumberFits n
ValueFits (Text text) = TextFits text
ValueFits (Bytes bytes) = length bytes < 2 ^ 16

-- each number and each length has its place in its field
abbrev pub ValueHasPlace : Value → Type 0
ValueHasPlace Null = ⊤
ValueHasPlace (Number n) = NumberFits n
ValueHasPlace (Text text) = length text < 2 ^ 16
ValueHasPlace (Bytes bytes) = length bytes < 2 ^ 16

pub record RowHasPlace (row : Row) : Type 0 where
  pub count : length row.fields < 2 ^ 8
  pub fields : AllByRecursion ValueHasPlace row.fields

abbrev pub GivenFits : Option ℕ → Type 0
GivenFits None = ⊤
GivenFits (Some n) = n < 2 ^ 64

pub record RowFits (row : Row) : Type 0 where
  pub hidden : GivenFits row.hidden
  pub stamp : GivenFits row.stamp
  pub count : length row.fields < 2 ^ 8
  pub fields : AllByRecursion ValueFits row.fields

-- a negative number's mark, and its 8 bytes in two's complement
abbrev pub signed_bytes : ℤ → List ℕ
signed_bytes n = 1 ∷ big_bytes 8 (cast_unsigned w64 n)
