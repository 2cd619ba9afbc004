-- Fields in front of a list of bytes. Numbers are big-endian. An error is the number of bytes left from the first byte of the field
-- that breaks its rule or isn't whole.
use Rattle.std.specs.Prelude.{ℕ, Bool, List, length, drop, if◌then◌else◌, nat_lt, Result, Ok, Err}
use Rattle.std.specs.Borrow.{Bor}
use Rattle.byteorder.specs.Endian.{big_number}

-- what was read, and the bytes behind it
abbrev pub Read : Type 0 → Type 0
Read X = Result (X × List ℕ) ℕ

infixl 20 ◌>>=◌
abbrev pub ◌>>=◌ : {X Y : Type 0} → Result X ℕ → (X → Result Y ℕ) → Result Y ℕ
Ok x >>= f = f x
Err left >>= f = Err left

abbrev pub is_byte : ℕ → Bool
is_byte b = nat_lt b 256

-- a number of n bytes
abbrev pub number_in : ℕ → List ℕ → Read ℕ
number_in n bytes = if nat_lt (length bytes) n then Err (length bytes) else Ok (big_number n bytes, drop n bytes)

-- what a function gave that borrows from the bytes
abbrev pub number_given : Result (ℕ × Bor (List ℕ)) ℕ → Read ℕ
number_given (Ok r) = Ok (r.0, r.1.now)
number_given (Err left) = Err left
