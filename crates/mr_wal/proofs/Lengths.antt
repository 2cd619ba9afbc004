-- How long the parts of a record are.
use Rattle.std.proofs.Common.{◌≡◌, ℕ, ◌+◌, ◌<◌, List, ◌∷◌, ◌++◌, length, length-append, take, get_or, Some, is_some, ap, ◌∙◌, arith}
use Rattle.byteorder.specs.Endian.{big_bytes}
use Rattle.byteorder.specs.Numbers.{length-bytes_high_first}
use Rattle.mr_wal.specs.declared.operation.Operation.{Operation}
use Rattle.mr_wal.specs.declared.record.WalBody.TheVariants.{Prepare, Plain}
use Rattle.mr_wal.specs.Operations.{kind_byte, put_bytes, operation_bytes}
use Rattle.mr_wal.specs.EngineLog.{operations_bytes, batch_bytes, record_bytes}
use Rattle.mr_wal.proofs.WritingLaws.{operations_take}

number_size : (n x : ℕ) → length (big_bytes n x) ≡ n
number_size n x = length-bytes_high_first n x

pub put_size : (value : List ℕ) → length (put_bytes (Some value)) ≡ 4 + length value
put_size value = omega (arith, length-append (big_bytes 4 (length value)) value, number_size 4 (length value))

pub operation_size : (o : Operation) → length (operation_bytes o) ≡ 9 + length o.key + length (put_bytes o.put)
operation_size o =
    omega (arith, length-append (big_bytes 4 o.family) (kind_byte (is_some o.put) ∷ (big_bytes 4 (length o.key) ++ (o.key ++ put_bytes o.put))), number_size 4 o.family, length-append (big_bytes 4 (length o.key)) (o.key ++ put_bytes o.put), number_size 4 (length o.key), length-append o.key (put_bytes o.put))

pub one_more : (os : List Operation) (i : ℕ) (o : Operation) → i < length os → o ≡ get_or os i o → length (operations_bytes (take (i + 1) os)) ≡ length (operations_bytes (take i os)) + length (operation_bytes o)
one_more os i o lt is = ap length (operations_take os i o lt is) ∙ length-append (operations_bytes (take i os)) (operation_bytes o)

batch_size : (os : List Operation) → length (batch_bytes os) ≡ 4 + length (operations_bytes os)
batch_size os = omega (arith, length-append (big_bytes 4 (length os)) (operations_bytes os), number_size 4 (length os))

pub plain_size : (verdict sequence : ℕ) (os : List Operation) → length (record_bytes (record { verdict = verdict; body = Plain sequence os })) ≡ 14 + length (operations_bytes os)
plain_size verdict sequence os = omega (arith, length-append (big_bytes 8 sequence) (batch_bytes os), number_size 8 sequence, batch_size os)

pub prepare_size : (verdict k sequence : ℕ) (os : List Operation) → length (record_bytes (record { verdict = verdict; body = Prepare k sequence os })) ≡ 22 + length (operations_bytes os)
prepare_size verdict k sequence os = omega (arith, length-append (big_bytes 8 k) (big_bytes 8 sequence ++ batch_bytes os), number_size 8 k, length-append (big_bytes 8 sequence) (batch_bytes os), number_size 8 sequence, batch_size os)
