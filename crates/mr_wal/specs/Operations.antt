-- An operation as bytes, and the operation that bytes are.
use Rattle.std.specs.Prelude.{ℕ, ◌==◌, Bool, true, false, List, [], ◌∷◌, ◌++◌, length, if◌then◌else◌, Option, Some, None, is_some, Result, Ok, Err}
use Rattle.std.specs.Option.{option_map}
use Rattle.std.specs.Borrow.{Bor}
use Rattle.byteorder.specs.Endian.{big_bytes}
use Rattle.mr_wal.specs.declared.operation.Operation.{Operation}
use Rattle.mr_wal.specs.declared.operation.OperationRef.{OperationRef}
use Rattle.mr_wal.specs.Fields.{Read, ◌>>=◌, number_in, bytes_in}

abbrev pub kind_byte : Bool → ℕ
kind_byte put = if put then 1 else 2

abbrev pub sized : List ℕ → List ℕ
sized bytes = big_bytes 4 (length bytes) ++ bytes

abbrev pub put_bytes : Option (List ℕ) → List ℕ
put_bytes None = []
put_bytes (Some value) = sized value

abbrev pub operation_bytes : Operation → List ℕ
operation_bytes o = big_bytes 4 o.family ++ (kind_byte (is_some o.put) ∷ (big_bytes 4 (length o.key) ++ (o.key ++ put_bytes o.put)))

-- whether it is a put
abbrev pub kind_in : List ℕ → Read Bool
kind_in [] = Err 0
kind_in (b ∷ bytes) = if b == 1 then Ok (true, bytes) else (if b == 2 then Ok (false, bytes) else Err (length (b ∷ bytes)))

abbrev pub value_in : List ℕ → Read (Option (List ℕ))
value_in bytes = do
  size ← number_in 4 bytes
  value ← bytes_in size.0 size.1
  Ok (Some value.0, value.1)

abbrev pub put_in : Bool → List ℕ → Read (Option (List ℕ))
put_in put bytes = if put then value_in bytes else Ok (None, bytes)

abbrev pub an_operation : ℕ → List ℕ → Option (List ℕ) → Operation
an_operation family key put = record { family = family; key = key; put = put }

abbrev pub operation_in : List ℕ → Read Operation
operation_in bytes = do
  family ← number_in 4 bytes
  kind ← kind_in family.1
  size ← number_in 4 kind.1
  key ← bytes_in size.0 size.1
  put ← put_in kind.0 key.1
  Ok (an_operation family.0 key.0 put.0, put.1)

-- ---- what the readers give that borrow from the bytes

abbrev pub kind_given : Result (Bool × Bor (List ℕ)) ℕ → Read Bool
kind_given (Ok r) = Ok (r.0, r.1.now)
kind_given (Err left) = Err left

abbrev pub put_given : Result (Option (Bor (List ℕ)) × Bor (List ℕ)) ℕ → Read (Option (List ℕ))
put_given (Ok r) = Ok (option_map (λ v. v.now) r.0, r.1.now)
put_given (Err left) = Err left

abbrev pub operation_of : OperationRef → Operation
operation_of o = an_operation o.family o.key.now (option_map (λ v. v.now) o.put)

abbrev pub operation_given : Result (OperationRef × Bor (List ℕ)) ℕ → Read Operation
operation_given (Ok r) = Ok (operation_of r.0, r.1.now)
operation_given (Err left) = Err left
