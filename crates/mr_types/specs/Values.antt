-- Values, and their conversion and assignment to columns.
use Rattle.std.specs.Prelude.{◌≡◌, ℕ, ◌+◌, ◌-◌, ◌^◌, ◌*◌, ℤ, pos, negsuc, zero, suc, Bool, true, false, not, ◌||◌, ◌&&◌, nat_lt, nat_le, int_lt, int_le, ◌==◌, nat_eq, if◌then◌else◌, List, [], ◌∷◌, length, take, drop, map, Option, Some, None, Result, Ok, Err}
use Rattle.std.specs.List.{list_all}
use Rattle.std.specs.Cmp.Lexicographic.{pointwise}
use Rattle.std.specs.Fmt.{signed_decimal}
use Rattle.mr_lanes.specs.Kernels.{upper, is_space, is_low}
use Rattle.mr_types.specs.declared.value.Value.{Value}
use Rattle.mr_types.specs.declared.value.Value.TheVariants.{Null, Number, Text, Bytes}
use Rattle.mr_types.specs.declared.kind.Kind.{Kind}
use Rattle.mr_types.specs.declared.kind.Kind.TheVariants.{Int, IntUnsigned, BigInt, BigIntUnsigned, VarChar, VarBinary}
use Rattle.mr_types.specs.declared.kind.ColumnType.{ColumnType}
use Rattle.mr_types.specs.declared.refused.Refused.{Refused}
use Rattle.mr_types.specs.declared.refused.Refused.TheVariants.{Memory, Sql}
use Rattle.mr_types.specs.Refusals.{◌>>=◌, ◌>>◌, refuse_where, some_or}

-- ---- names

abbrev pub same_bytes : List ℕ → List ℕ → Bool
same_bytes a b = pointwise nat_eq a b

-- names of columns, keys, savepoints and sessions
abbrev pub same_name : List ℕ → List ℕ → Bool
same_name a b = same_bytes (map upper a) (map upper b)

-- ---- numbers in text

abbrev pub is_digit : ℕ → Bool
is_digit b = nat_le 48 b && nat_le b 57

-- the number whose decimal digits these are, behind those of n
abbrev pub number_from : ℕ → List ℕ → ℕ
number_from n [] = n
number_from n (b ∷ bs) = number_from (10 * n + (b - 48)) bs

abbrev pub negated : ℕ → ℤ
negated zero = pos zero
negated (suc n) = negsuc n

-- 1 to `most` decimal digits
abbrev pub number_of : ℕ → List ℕ → Option ℕ
number_of most bs = if nat_lt 0 (length bs) && (nat_le (length bs) most && list_all is_digit bs) then Some (number_from 0 bs) else None

abbrev pub negated_option : Option ℕ → Option ℤ
negated_option None = None
negated_option (Some n) = Some (negated n)

abbrev pub plain_option : Option ℕ → Option ℤ
plain_option None = None
plain_option (Some n) = Some (pos n)

-- an optional `-` and 1 to 38 digits
abbrev pub whole_number : List ℕ → Option ℤ
whole_number [] = None
whole_number (b ∷ bs) = if b == 45 then negated_option (number_of 38 bs) else plain_option (number_of 38 (b ∷ bs))

-- ---- conversion

pub data Sort : Type 0 where
  Numbers : Sort
  Texts : Sort
  Binaries : Sort

abbrev pub sort_of : Kind → Sort
sort_of Int = Numbers
sort_of IntUnsigned = Numbers
sort_of BigInt = Numbers
sort_of BigIntUnsigned = Numbers
sort_of (VarChar n c) = Texts
sort_of (VarBinary n) = Binaries

abbrev pub is_numbers : Sort → Bool
is_numbers Numbers = true
is_numbers Texts = false
is_numbers Binaries = false

abbrev pub is_ascii : List ℕ → Bool
is_ascii bs = list_all is_low bs

abbrev pub as_number : List ℕ → Result Value ℕ
as_number bs = do
  n ← some_or 1366 (whole_number bs)
  Ok (Number n)

-- a value as one of a kind, else 1366
abbrev pub converted : Sort → Value → Result Value ℕ
converted sort Null = Ok Null
converted Numbers (Number n) = Ok (Number n)
converted Numbers (Text t) = as_number t
converted Numbers (Bytes b) = as_number b
converted Texts (Number n) = Ok (Text (signed_decimal n))
converted Texts (Text t) = Ok (Text t)
converted Texts (Bytes b) = if is_ascii b then Ok (Text b) else Err 1366
converted Binaries (Number n) = Ok (Bytes (signed_decimal n))
converted Binaries (Text t) = Ok (Bytes t)
converted Binaries (Bytes b) = Ok (Bytes b)

abbrev pub convert_to : Kind → Value → Result Value ℕ
convert_to kind v = converted (sort_of kind) v

-- ---- assignment

-- from low up to below high
abbrev pub in_range : ℤ → ℤ → ℤ → Bool
in_range low high n = int_le low n && int_lt n high

abbrev pub is_in_kind : Kind → ℤ → Bool
is_in_kind Int n = in_range (negated (2 ^ 31)) (pos (2 ^ 31)) n
is_in_kind IntUnsigned n = in_range (pos 0) (pos (2 ^ 32)) n
is_in_kind BigInt n = in_range (negated (2 ^ 63)) (pos (2 ^ 63)) n
is_in_kind BigIntUnsigned n = in_range (pos 0) (pos (2 ^ 64)) n
is_in_kind (VarChar n c) m = true
is_in_kind (VarBinary n) m = true

abbrev pub length_of_kind : Kind → ℕ
length_of_kind (VarChar n c) = n
length_of_kind (VarBinary n) = n
length_of_kind _ = 0

-- a text as long as n allows: what is cut is only spaces
abbrev pub cut_text : ℕ → List ℕ → Result Value ℕ
cut_text n t = do
  refuse_where 1406 (not (list_all is_space (drop n t)))
  Ok (Text (take n t))

-- a converted value as a column of the kind holds it: 1264 or 1406
abbrev pub fitted : Kind → Value → Result Value ℕ
fitted kind Null = Ok Null
fitted kind (Number n) = refuse_where 1264 (not (is_in_kind kind n)) >> Ok (Number n)
fitted kind (Text t) = cut_text (length_of_kind kind) t
fitted kind (Bytes b) = refuse_where 1406 (nat_lt (length_of_kind kind) (length b)) >> Ok (Bytes b)

abbrev pub is_null : Value → Bool
is_null Null = true
is_null _ = false

-- a value as a column takes it: 1048, 1366, 1264 or 1406, the first that applies
abbrev pub assign_to : ColumnType → Value → Result Value ℕ
assign_to column v = do
  refuse_where 1048 (is_null v && not column.nullable)
  c ← convert_to column.kind v
  fitted column.kind c

-- byte for byte the same
abbrev pub is_equal : Value → Value → Bool
is_equal Null Null = true
is_equal (Number m) (Number n) = not (int_lt m n || int_lt n m)
is_equal (Text s) (Text t) = same_bytes s t
is_equal (Bytes s) (Bytes t) = same_bytes s t
is_equal _ _ = false

-- ---- what a call answers, where its memory suffices

abbrev pub Answers : {A : Type 0} → Result A Refused → Result A ℕ → Type 0
Answers (Ok x) answer = answer ≡ Ok x
Answers (Err (Sql code)) answer = answer ≡ Err code
Answers (Err Memory) answer = Unit {0}
