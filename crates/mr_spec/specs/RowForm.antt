-- A row as bytes, as the binary log has it. Numbers are big-endian.
--   row     flags u8 (1: a hidden number follows, 2: a stamp follows, 3: both, 0: none), the hidden number u64, the stamp u64,
--           the count of columns u8, the values in column order
--   value   00, NULL; 01 and 8 bytes, a number below 2^63 in two's complement; 02 and 8 bytes, a number from 2^63 on;
--           03, a length u16 and a text; 04, a length u16 and bytes
use Rattle.std.specs.Prelude.{ℕ, ℤ, pos, negsuc, ◌+◌, ◌^◌, nat_lt, if◌then◌else◌, List, [], ◌∷◌, ◌++◌, Option, Some, None, length}
use Rattle.std.specs.Int.{cast_unsigned, w64}
use Rattle.byteorder.specs.Endian.{big_bytes}
use Rattle.mr_types.specs.declared.value.Value.{Value}
use Rattle.mr_types.specs.declared.value.Value.TheVariants.{Null, Number, Text, Bytes}
use Rattle.mr_types.specs.declared.row.Row.{Row}

-- a number: its mark, and 8 bytes
abbrev pub number_bytes : ℤ → List ℕ
number_bytes (pos n) = (if nat_lt n (2 ^ 63) then 1 else 2) ∷ big_bytes 8 n
number_bytes (negsuc n) = 1 ∷ big_bytes 8 (cast_unsigned w64 (negsuc n))

-- a length of two bytes, and the bytes
abbrev pub text16_bytes : List ℕ → List ℕ
text16_bytes bytes = big_bytes 2 (length bytes) ++ bytes

-- a value: its mark, and what it says
abbrev pub value_bytes : Value → List ℕ
value_bytes Null = 0 ∷ []
value_bytes (Number n) = number_bytes n
value_bytes (Text text) = 3 ∷ text16_bytes text
value_bytes (Bytes bytes) = 4 ∷ text16_bytes bytes

-- values, one after the other
abbrev pub values_bytes : List Value → List ℕ
values_bytes [] = []
values_bytes (v ∷ vs) = value_bytes v ++ values_bytes vs

-- a number of 64 bits, where there is one
abbrev pub given_bytes : Option ℕ → List ℕ
given_bytes None = []
given_bytes (Some n) = big_bytes 8 n

-- this flag, where there is a number
abbrev pub flag_of : ℕ → Option ℕ → ℕ
flag_of flag None = 0
flag_of flag (Some n) = flag

-- which numbers follow
abbrev pub flags_of : Row → ℕ
flags_of row = flag_of 1 row.hidden + flag_of 2 row.stamp

-- a row
abbrev pub row_bytes : Row → List ℕ
row_bytes row = flags_of row ∷ (given_bytes row.hidden ++ (given_bytes row.stamp ++ (length row.fields ∷ values_bytes row.fields)))
