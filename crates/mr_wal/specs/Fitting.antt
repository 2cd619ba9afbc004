-- Records whose numbers and lengths are in their fields, and which keep the rules on verdicts and sequence numbers.
use Rattle.std.specs.Prelude.{ℕ, ◌^◌, ◌<◌, List, length, Option, Some, None}
use Rattle.std.specs.List.{AllByRecursion}
use Rattle.mr_wal.specs.declared.operation.Operation.{Operation}
use Rattle.mr_wal.specs.declared.record.WalBody.{WalBody}
use Rattle.mr_wal.specs.declared.record.WalBody.TheVariants.{Prepare, Plain, Decided}
use Rattle.mr_wal.specs.declared.record.WalRecord.{WalRecord}

abbrev pub PutFits : Option (List ℕ) → Type 0
PutFits None = Unit {0}
PutFits (Some value) = length value < 2 ^ 32

pub record OperationFits (o : Operation) : Type 0 where
  pub family : o.family < 2 ^ 32
  pub key : length o.key < 2 ^ 32
  pub put : PutFits o.put

pub record BatchFits (os : List Operation) : Type 0 where
  pub count : length os < 2 ^ 32
  pub each : AllByRecursion OperationFits os

abbrev pub BodyFits : WalBody → Type 0
BodyFits (Prepare k sequence batch) = (k < 2 ^ 64) × (sequence < 2 ^ 63) × BatchFits batch
BodyFits (Plain sequence batch) = (sequence < 2 ^ 63) × BatchFits batch
BodyFits Decided = Unit {0}

pub record RecordFits (r : WalRecord) : Type 0 where
  pub verdict : r.verdict < 3
  pub body : BodyFits r.body

-- ---- what a writer takes: whatever the verdict and the sequence number, each number and each length has a place in its field

abbrev pub BodyFieldsFit : WalBody → Type 0
BodyFieldsFit (Prepare k sequence batch) = (k < 2 ^ 64) × (sequence < 2 ^ 64) × BatchFits batch
BodyFieldsFit (Plain sequence batch) = (sequence < 2 ^ 64) × BatchFits batch
BodyFieldsFit Decided = Unit {0}

pub record FieldsFit (r : WalRecord) : Type 0 where
  pub verdict : r.verdict < 2 ^ 8
  pub body : BodyFieldsFit r.body
