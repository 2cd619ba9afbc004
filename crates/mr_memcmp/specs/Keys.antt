-- The bytes of a column in a key, and of a key.
use Rattle.std.specs.Prelude.{ℕ, suc, ◌+◌, ◌-◌, ◌^◌, ℤ, pos, negsuc, List, [], ◌∷◌, ◌++◌, Bool, true, false, Option, Some, None, slice_get}
use Rattle.std.specs.List.{flat_map}
use Rattle.byteorder.specs.Endian.{big_bytes}
use Rattle.mr_pieces.specs.Pieces.{bytes_pieces, text_pieces}
use Rattle.mr_types.specs.declared.kind.Kind.{Kind}
use Rattle.mr_types.specs.declared.kind.Kind.TheVariants.{Int, IntUnsigned, BigInt, BigIntUnsigned, VarChar, VarBinary}
use Rattle.mr_types.specs.declared.kind.ColumnType.{ColumnType}
use Rattle.mr_types.specs.declared.definition.ColumnDef.{ColumnDef}
use Rattle.mr_types.specs.declared.definition.TableDef.{TableDef}
use Rattle.mr_types.specs.declared.row.Row.{Row}
use Rattle.mr_types.specs.declared.value.Value.{Value}
use Rattle.mr_types.specs.declared.value.Value.TheVariants.{Null, Number, Text, Bytes}
use Rattle.mr_types.specs.Order.{collation_of}

-- ---- a column

-- a signed number with its sign bit flipped: counted from the least one, -2^half
abbrev pub sign_flipped : ℕ → ℤ → ℕ
sign_flipped half (pos n) = 2 ^ half + n
sign_flipped half (negsuc n) = 2 ^ half - suc n

-- an unsigned number is never below 0
abbrev pub magnitude : ℤ → ℕ
magnitude (pos n) = n
magnitude (negsuc n) = 0

-- 4 or 8 bytes, the highest first
abbrev pub number_bytes : Kind → ℤ → List ℕ
number_bytes Int z = big_bytes 4 (sign_flipped 31 z)
number_bytes IntUnsigned z = big_bytes 4 (magnitude z)
number_bytes BigInt z = big_bytes 8 (sign_flipped 63 z)
number_bytes BigIntUnsigned z = big_bytes 8 (magnitude z)
number_bytes (VarChar n collation) z = []
number_bytes (VarBinary n) z = []

-- numbers, and the pieces of texts and of bytes
abbrev pub value_bytes : Kind → Value → List ℕ
value_bytes kind Null = []
value_bytes kind (Number z) = number_bytes kind z
value_bytes kind (Text text) = text_pieces (collation_of kind) text
value_bytes kind (Bytes bytes) = bytes_pieces bytes

-- where NULL may stand: 0 alone for NULL, else 1 and the value
abbrev pub flagged_bytes : Kind → Value → List ℕ
flagged_bytes kind Null = 0 ∷ []
flagged_bytes kind value = 1 ∷ value_bytes kind value

abbrev pub bytes_by_flag : Bool → Kind → Value → List ℕ
bytes_by_flag false kind value = value_bytes kind value
bytes_by_flag true kind value = flagged_bytes kind value

unfoldable pub column_bytes : ColumnType → Value → List ℕ
column_bytes column value = bytes_by_flag column.nullable column.kind value

-- ---- a key

abbrev pub part_bytes : Option ColumnDef → Option Value → List ℕ
part_bytes (Some column) (Some value) = column_bytes column.ty value
part_bytes _ _ = []

-- the columns at these places, one behind the other
abbrev pub parts_bytes : List ColumnDef → List Value → List ℕ → List ℕ
parts_bytes columns values places = flat_map (λ p. part_bytes (slice_get columns p) (slice_get values p)) places

-- the index number and the columns at these places
abbrev pub columns_bytes : ℕ → TableDef → List ℕ → Row → List ℕ
columns_bytes index def places row = big_bytes 4 index ++ parts_bytes def.columns row.fields places

abbrev pub hidden_bytes : Option ℕ → List ℕ
hidden_bytes None = []
hidden_bytes (Some n) = big_bytes 8 n

-- and the hidden number behind them, where the row has one
abbrev pub key_bytes_of : ℕ → TableDef → List ℕ → Row → List ℕ
key_bytes_of index def places row = columns_bytes index def places row ++ hidden_bytes row.hidden
