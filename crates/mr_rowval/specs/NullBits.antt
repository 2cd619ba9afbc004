-- The null bits: one per nullable column in column order, the least significant first, in as few bytes as hold them;
-- the bits that aren't used are 0.
use Rattle.std.specs.Prelude.{ℕ, zero, suc, ◌+◌, ◌*◌, ◌/◌, ◌%◌, Bool, true, false, ◌==◌, if◌then◌else◌, List, [], ◌∷◌, Option, Some, None}
use Rattle.mr_types.specs.declared.definition.ColumnDef.{ColumnDef}
use Rattle.mr_types.specs.declared.value.Value.{Value}
use Rattle.mr_types.specs.Values.{is_null}

-- ---- which columns are NULL

abbrev pub with_flag : Bool → Bool → List Bool → List Bool
with_flag false flag flags = flags
with_flag true flag flags = flag ∷ flags

-- one flag per nullable column
abbrev pub null_flags : List ColumnDef → List Value → List Bool
null_flags [] values = []
null_flags (column ∷ columns) [] = []
null_flags (column ∷ columns) (value ∷ values) = with_flag column.ty.nullable (is_null value) (null_flags columns values)

abbrev pub one_more_if : Bool → ℕ → ℕ
one_more_if false n = n
one_more_if true n = suc n

abbrev pub nullable_count : List ColumnDef → ℕ
nullable_count [] = 0
nullable_count (column ∷ columns) = one_more_if column.ty.nullable (nullable_count columns)

-- ---- flags as bits

abbrev pub bit_of : Bool → ℕ
bit_of false = 0
bit_of true = 1

-- `left` bits of the present byte are free: what stands in them, as a number, and the further bytes
abbrev pub bits_from : ℕ → List Bool → ℕ × List ℕ
bits_from left [] = (0, [])
bits_from zero (flag ∷ flags) = (0, (bit_of flag + 2 * (bits_from 7 flags).0) ∷ (bits_from 7 flags).1)
bits_from (suc left) (flag ∷ flags) = (bit_of flag + 2 * (bits_from left flags).0, (bits_from left flags).1)

abbrev pub null_bits : List Bool → List ℕ
null_bits flags = (bits_from 0 flags).1

-- ---- and back

abbrev pub is_odd : ℕ → Bool
is_odd n = n % 2 == 1

abbrev pub Flags : Type 0
Flags = Option (List Bool × List ℕ)

abbrev pub after_flag : Bool → Flags → Flags
after_flag flag (Some x) = Some (flag ∷ x.0, x.1)
after_flag flag None = None

-- so many flags, where `left` bits of the present byte, which are the number `byte`, were not read yet; and the bytes
-- behind them. None where bytes are missing or a bit is set that isn't used.
abbrev pub flags_read : ℕ → ℕ → ℕ → List ℕ → Flags
flags_read zero left byte rest = if byte == 0 then Some ([], rest) else None
flags_read (suc n) zero byte [] = None
flags_read (suc n) zero byte (next ∷ rest) = after_flag (is_odd next) (flags_read n 7 (next / 2) rest)
flags_read (suc n) (suc left) byte rest = after_flag (is_odd byte) (flags_read n left (byte / 2) rest)
