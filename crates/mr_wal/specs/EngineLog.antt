-- A record of the engine log as bytes, and the record that bytes are. Numbers are big-endian.
--   record    verdict u8, below 3; kind u8, and:
--   1         prepare: commit number u64, sequence number u64 below 2^63, batch
--   2         plain: sequence number u64 below 2^63, batch
--   3         decided
--   batch     count u32, operations
use Rattle.std.specs.Prelude.{ℕ, ◌-◌, ◌^◌, ◌==◌, zero, suc, List, [], ◌∷◌, ◌++◌, length, if◌then◌else◌, nat_lt, Result, Ok, Err}
use Rattle.byteorder.specs.Endian.{big_bytes}
use Rattle.mr_wal.specs.declared.operation.Operation.{Operation}
use Rattle.mr_wal.specs.declared.record.WalBody.{WalBody}
use Rattle.mr_wal.specs.declared.record.WalBody.TheVariants.{Prepare, Plain, Decided}
use Rattle.mr_wal.specs.declared.record.WalRecord.{WalRecord}
use Rattle.mr_wal.specs.Fields.{Read, ◌>>=◌, number_in}
use Rattle.mr_wal.specs.Operations.{operation_bytes, operation_in}

-- ---- the bytes of a record

abbrev pub operations_bytes : List Operation → List ℕ
operations_bytes [] = []
operations_bytes (o ∷ os) = operation_bytes o ++ operations_bytes os

abbrev pub batch_bytes : List Operation → List ℕ
batch_bytes os = big_bytes 4 (length os) ++ operations_bytes os

abbrev pub body_bytes : WalBody → List ℕ
body_bytes (Prepare k sequence batch) = 1 ∷ (big_bytes 8 k ++ (big_bytes 8 sequence ++ batch_bytes batch))
body_bytes (Plain sequence batch) = 2 ∷ (big_bytes 8 sequence ++ batch_bytes batch)
body_bytes Decided = 3 ∷ []

abbrev pub record_bytes : WalRecord → List ℕ
record_bytes r = r.verdict ∷ body_bytes r.body

-- ---- the record of bytes

abbrev pub sequence_in : List ℕ → Read ℕ
sequence_in bytes = do
  number ← number_in 8 bytes
  if nat_lt number.0 (2 ^ 63) then Ok number else Err (length bytes)

abbrev pub operations_in : ℕ → List ℕ → Read (List Operation)
operations_in zero bytes = Ok ([], bytes)
operations_in (suc n) bytes = do
  one ← operation_in bytes
  more ← operations_in n one.1
  Ok (one.0 ∷ more.0, more.1)

abbrev pub batch_in : List ℕ → Read (List Operation)
batch_in bytes = do
  count ← number_in 4 bytes
  operations_in count.0 count.1

-- nothing stands behind
abbrev pub ended : {X : Type 0} → X → List ℕ → Result X ℕ
ended x [] = Ok x
ended x (b ∷ bytes) = Err (length (b ∷ bytes))

abbrev pub prepare_in : List ℕ → Result WalBody ℕ
prepare_in bytes = do
  k ← number_in 8 bytes
  sequence ← sequence_in k.1
  batch ← batch_in sequence.1
  ended (Prepare k.0 sequence.0 batch.0) batch.1

abbrev pub plain_in : List ℕ → Result WalBody ℕ
plain_in bytes = do
  sequence ← sequence_in bytes
  batch ← batch_in sequence.1
  ended (Plain sequence.0 batch.0) batch.1

abbrev pub body_in : List ℕ → Result WalBody ℕ
body_in [] = Err 0
body_in (kind ∷ bytes) =
    if kind == 1 then prepare_in bytes
    else (if kind == 2 then plain_in bytes
    else (if kind == 3 then ended Decided bytes else Err (length (kind ∷ bytes))))

abbrev pub with_verdict : ℕ → Result WalBody ℕ → Result WalRecord ℕ
with_verdict verdict (Ok body) = Ok (record { verdict = verdict; body = body })
with_verdict verdict (Err left) = Err left

-- the record, or the number of bytes left from the first offence on
abbrev pub record_in : List ℕ → Result WalRecord ℕ
record_in [] = Err 0
record_in (verdict ∷ bytes) = if nat_lt verdict 3 then with_verdict verdict (body_in bytes) else Err (length (verdict ∷ bytes))

-- the first offending place
abbrev pub offence_in : List ℕ → Result WalRecord ℕ → Result WalRecord ℕ
offence_in bytes (Ok r) = Ok r
offence_in bytes (Err left) = Err (length bytes - left)

abbrev pub read_record : List ℕ → Result WalRecord ℕ
read_record bytes = offence_in bytes (record_in bytes)
