-- The value and the row in front of a list of bytes, in the form that the rows of a commit have.
use Rattle.std.specs.Prelude.{ℕ, ◌^◌, pos, ◌==◌, ◌||◌, Bool, true, false, nat_lt, if◌then◌else◌, List, [], ◌∷◌, length, Option, Some, None, Ok, Err}
use Rattle.std.specs.Int.{cast_signed, w64}
use Rattle.mr_types.specs.declared.value.Value.{Value}
use Rattle.mr_types.specs.declared.value.Value.TheVariants.{Null, Number, Text, Bytes}
use Rattle.mr_types.specs.declared.row.Row.{Row}
use Rattle.mr_types.specs.Refusals.{◌>>=◌}
use Rattle.mr_fields.specs.Fields.{Read, byte_in, number_in, text16_in, is_text, is_any, listed_in}

-- ---- values, behind their marks

-- a number below 2^63, in two's complement
abbrev pub signed_in : List ℕ → Read Value
signed_in bytes = do
  number ← number_in 8 bytes
  Ok (Number (cast_signed w64 number.0), number.1)

-- a number of 2^63 or more
abbrev pub great_in : List ℕ → Read Value
great_in bytes = do
  number ← number_in 8 bytes
  if nat_lt number.0 (2 ^ 63) then Err (length bytes) else Ok (Number (pos number.0), number.1)

abbrev pub text_in : List ℕ → Read Value
text_in bytes = do
  text ← text16_in is_text bytes
  Ok (Text text.0, text.1)

abbrev pub binary_in : List ℕ → Read Value
binary_in bytes = do
  binary ← text16_in is_any bytes
  Ok (Bytes binary.0, binary.1)

abbrev pub value_in : List ℕ → Read Value
value_in [] = Err 0
value_in (mark ∷ bytes) =
    if mark == 0 then Ok (Null, bytes)
    else (if mark == 1 then signed_in bytes
    else (if mark == 2 then great_in bytes
    else (if mark == 3 then text_in bytes
    else (if mark == 4 then binary_in bytes else Err (length (mark ∷ bytes))))))

-- ---- rows

-- a number of 64 bits, where there is one
abbrev pub given_in : Bool → List ℕ → Read (Option ℕ)
given_in false bytes = Ok (None, bytes)
given_in true bytes = do
  number ← number_in 8 bytes
  Ok (Some number.0, number.1)

-- these flags say that a hidden number follows
abbrev pub has_hidden : ℕ → Bool
has_hidden flags = (flags == 1) || (flags == 3)

abbrev pub has_stamp : ℕ → Bool
has_stamp flags = (flags == 2) || (flags == 3)

abbrev pub row_in : List ℕ → Read Row
row_in bytes = do
  flags ← byte_in 4 bytes
  hidden ← given_in (has_hidden flags.0) flags.1
  stamp ← given_in (has_stamp flags.0) hidden.1
  count ← byte_in 256 stamp.1
  fields ← listed_in value_in count.0 count.1
  Ok (record { hidden = hidden.0; stamp = stamp.0; fields = fields.0 }, fields.1)
