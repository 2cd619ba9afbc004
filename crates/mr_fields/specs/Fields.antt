-- Fields in front of a list of bytes. Numbers are big-endian. An error is the number of bytes left from the first byte of the field
-- that breaks its rule or isn't whole.
use Rattle.std.specs.Prelude.{ℕ, zero, suc, ◌-◌, ◌==◌, Bool, true, ◌&&◌, nat_lt, nat_le, if◌then◌else◌, List, [], ◌∷◌, ◌++◌, length, take, drop, Result, Ok, Err}
use Rattle.std.specs.List.{list_all}
use Rattle.byteorder.specs.Endian.{big_number}
use Rattle.mr_lanes.specs.Kernels.{is_low}
use Rattle.mr_types.specs.Refusals.{◌>>=◌, refused_as}

-- what was read, and the bytes behind it
abbrev pub Read : Type 0 → Type 0
Read X = Result (X × List ℕ) ℕ

abbrev pub is_byte : ℕ → Bool
is_byte b = nat_lt b 256

-- a byte below n: a mark, a flag, a count or a place
abbrev pub byte_in : ℕ → List ℕ → Read ℕ
byte_in n [] = Err 0
byte_in n (b ∷ bytes) = if nat_lt b n then Ok (b, bytes) else Err (length (b ∷ bytes))

-- 0 or 1
abbrev pub flag_byte : Bool → ℕ
flag_byte flag = if flag then 1 else 0

abbrev pub flag_in : List ℕ → Read Bool
flag_in bytes = do
  b ← byte_in 2 bytes
  Ok (b.0 == 1, b.1)

-- a number of n bytes
abbrev pub number_in : ℕ → List ℕ → Read ℕ
number_in n bytes = if nat_lt (length bytes) n then Err (length bytes) else Ok (big_number n bytes, drop n bytes)

-- n bytes
abbrev pub bytes_in : ℕ → List ℕ → Read (List ℕ)
bytes_in n bytes = if nat_lt (length bytes) n then Err (length bytes) else Ok (take n bytes, drop n bytes)

-- ---- names and texts

-- from 0x01 to 0x7F
abbrev pub is_name_byte : ℕ → Bool
is_name_byte b = nat_lt 0 b && is_low b

-- not empty, and of such bytes
abbrev pub is_name : List ℕ → Bool
is_name name = nat_lt 0 (length name) && list_all is_name_byte name

-- a length of one byte, and the name: one field
abbrev pub name_bytes : List ℕ → List ℕ
name_bytes name = length name ∷ name

abbrev pub name_in : List ℕ → Read (List ℕ)
name_in [] = Err 0
name_in (size ∷ bytes) = if nat_le size (length bytes) && is_name (take size bytes) then Ok (take size bytes, drop size bytes) else Err (length (size ∷ bytes))

abbrev pub is_text : List ℕ → Bool
is_text text = list_all is_low text

abbrev pub is_any : List ℕ → Bool
is_any bytes = true

-- a length of two bytes and so many bytes, which pass the test
abbrev pub sized_in : (List ℕ → Bool) → List ℕ → Read (List ℕ)
sized_in test bytes = do
  size ← number_in 2 bytes
  text ← bytes_in size.0 size.1
  if test text.0 then Ok text else Err (length bytes)

-- these as one field
abbrev pub text16_in : (List ℕ → Bool) → List ℕ → Read (List ℕ)
text16_in test bytes = refused_as (length bytes) (sized_in test bytes)

-- ---- lists

-- one after the other
abbrev pub listed_bytes : {X : Type 0} → (X → List ℕ) → List X → List ℕ
listed_bytes write [] = []
listed_bytes write (x ∷ xs) = write x ++ listed_bytes write xs

abbrev pub listed_in : {X : Type 0} → (List ℕ → Read X) → ℕ → List ℕ → Read (List X)
listed_in read zero bytes = Ok ([], bytes)
listed_in read (suc n) bytes = do
  one ← read bytes
  more ← listed_in read n one.1
  Ok (one.0 ∷ more.0, more.1)

-- ---- the whole

-- nothing stands behind
abbrev pub ended : {X : Type 0} → X × List ℕ → Result X ℕ
ended (x, []) = Ok x
ended (x, b ∷ bytes) = Err (length (b ∷ bytes))

-- the first offending place
abbrev pub placed : {X : Type 0} → List ℕ → Result X ℕ → Result X ℕ
placed bytes (Ok x) = Ok x
placed bytes (Err left) = Err (length bytes - left)

-- all the bytes
abbrev pub whole_in : {X : Type 0} → (List ℕ → Read X) → List ℕ → Result X ℕ
whole_in read bytes = read bytes >>= ended

-- what the bytes are, or the first offending place
abbrev pub read_whole : {X : Type 0} → (List ℕ → Read X) → List ℕ → Result X ℕ
read_whole read bytes = placed bytes (whole_in read bytes)
