-- A column that isn't in the key: a number in 4 or 8 bytes, the highest first, signed ones in two's complement; a text
-- and bytes behind their length in two bytes. NULL has no bytes.
use Rattle.std.specs.Prelude.{ℕ, suc, ◌-◌, ◌^◌, ℤ, pos, negsuc, List, [], ◌++◌, length, take, drop, Bool, true, nat_lt, nat_le, ◌&&◌, if◌then◌else◌, Ok, Err}
use Rattle.std.specs.List.{list_all}
use Rattle.std.specs.Int.{w16, w32, w64, from_be_bytes}
use Rattle.byteorder.specs.Endian.{big_bytes}
use Rattle.mr_lanes.specs.Kernels.{is_low}
use Rattle.mr_types.specs.declared.kind.Kind.{Kind}
use Rattle.mr_types.specs.declared.kind.Kind.TheVariants.{Int, IntUnsigned, BigInt, BigIntUnsigned, VarChar, VarBinary}
use Rattle.mr_types.specs.declared.value.Value.{Value}
use Rattle.mr_types.specs.declared.value.Value.TheVariants.{Null, Number, Text, Bytes}
use Rattle.mr_memcmp.specs.Keys.{magnitude}
use Rattle.mr_memcmp.specs.Reading.{ReadValue, number_read, as_number}

-- ---- bytes of values

-- a number of so many bits in two's complement
abbrev pub complement : ℕ → ℤ → ℕ
complement width (pos n) = n
complement width (negsuc n) = 2 ^ width - suc n

abbrev pub plain_number : Kind → ℤ → List ℕ
plain_number Int z = big_bytes 4 (complement 32 z)
plain_number IntUnsigned z = big_bytes 4 (magnitude z)
plain_number BigInt z = big_bytes 8 (complement 64 z)
plain_number BigIntUnsigned z = big_bytes 8 (magnitude z)
plain_number (VarChar n collation) z = []
plain_number (VarBinary n) z = []

abbrev pub text16 : List ℕ → List ℕ
text16 text = big_bytes 2 (length text) ++ text

abbrev pub plain_bytes : Kind → Value → List ℕ
plain_bytes kind Null = []
plain_bytes kind (Number z) = plain_number kind z
plain_bytes kind (Text text) = text16 text
plain_bytes kind (Bytes bytes) = text16 bytes

-- ---- and back

abbrev pub signed : ℕ → ℕ → ℤ
signed half n = if nat_lt n (2 ^ half) then pos n else negsuc (2 ^ suc half - suc n)

abbrev pub length16 : List ℕ → ℕ
length16 bytes = from_be_bytes w16 (take 2 bytes)

-- whole, of at most n bytes, and these pass the test
abbrev pub is_text16 : ℕ → (List ℕ → Bool) → List ℕ → Bool
is_text16 n test bytes = nat_le 2 (length bytes) && (nat_le (length16 bytes) n && (nat_le (length16 bytes) (length (drop 2 bytes)) && test (take (length16 bytes) (drop 2 bytes))))

abbrev pub text16_read : ℕ → (List ℕ → Bool) → (List ℕ → Value) → List ℕ → ReadValue
text16_read n test value bytes = if is_text16 n test bytes then Ok (value (take (length16 bytes) (drop 2 bytes)), drop (length16 bytes) (drop 2 bytes)) else Err (length bytes)

abbrev pub is_any : List ℕ → Bool
is_any bytes = true

abbrev pub is_ascii_text : List ℕ → Bool
is_ascii_text text = list_all is_low text

unfoldable pub plain_read : Kind → List ℕ → ReadValue
plain_read Int bytes = as_number (signed 31) (number_read w32 bytes)
plain_read IntUnsigned bytes = as_number pos (number_read w32 bytes)
plain_read BigInt bytes = as_number (signed 63) (number_read w64 bytes)
plain_read BigIntUnsigned bytes = as_number pos (number_read w64 bytes)
plain_read (VarChar n collation) bytes = text16_read n is_ascii_text Text bytes
plain_read (VarBinary n) bytes = text16_read n is_any Bytes bytes
