-- What a batch does to a store, in memory and on the disk.
use Rattle.std.specs.Prelude.{◌≡◌, ◌≢◌, ◌⊎◌, ℕ, List, length, Option, IfSome}
use Rattle.mr_base.specs.Disk.{State, Moment, Image, Leaves, IsAtRest, present, file_of, seen}
use Rattle.mr_base.specs.Calls.{During}
use Rattle.mr_wal.specs.declared.operation.Operation.{Operation}
use Rattle.mr_wal.specs.declared.record.WalRecord.{WalRecord}
use Rattle.mr_wal.specs.declared.record.WalBody.{WalBody}
use Rattle.mr_wal.specs.EngineLog.{record_bytes}
use Rattle.mr_engine_log.specs.declared.batched.Prepared.{Prepared}
use Rattle.mr_engine_log.specs.Standing.{record_of, with_record as log_with}
use Rattle.mr_family.specs.Family.{direction}
use Rattle.mr_families.specs.Known.{family_at}
use Rattle.mr_families.specs.declared.numbered.Numbered.{Numbered}
use Rattle.mr_families.specs.Batches.{Added, with_operations}
use Rattle.mr_engine_log.specs.Added.{IsDue}
use Rattle.mr_stored.specs.Said.{Said, with_record}
use Rattle.mr_stored.specs.Begun.{Says}
use Rattle.mr_store_memory.specs.Readied.{Readied, AreTurnedBy}
use Rattle.mr_kv.specs.Store.{KvState, versions_in}

-- the batch's families are made ready for it
pub record IsMadeReady (batch : List Operation) (old new : List Numbered) : Type 0 where
  pub readied : Readied batch old new
  pub turned : AreTurnedBy batch old new

-- and then each has its own operations more
pub record HasBatch (sequence : ℕ) (batch : List Operation) (old new : List Numbered) : Type 0 where
  pub between : List Numbered
  pub made : IsMadeReady batch old between
  pub added : Added sequence batch between new

-- nothing but rooms, and the directions of empty families, is another one
pub record IsAsBefore (batch : List Operation) (old new : KvState) : Type 0 where
  pub manifest : new.manifest ≡ old.manifest
  pub log : new.log ≡ old.log
  pub families : Readied batch old.families new.families

-- ---- what files say, at each moment

-- what the old image says the other one says, or that with the record
abbrev pub SaysOldOrNew : WalRecord → Image → Image → Type 0
SaysOldOrNew r old image = (s : Said) → Says old s → IsDue r s.logged → Says image s ⊎ Says image (with_record r s)

-- At this moment no other file differs from what it was at the start, nor the output; and whatever a crash leaves says the same, or that with
-- the record.
pub record MayHaveSaid (r : WalRecord) (file : ℕ) (start : State) (m : Moment) : Type 0 where
  pub files : (other : ℕ) → other ≢ file → m.files other ≡ (present start).files other
  pub output : m.output ≡ (present start).output
  pub left : (image : Image) → Leaves m image → SaysOldOrNew r (seen start) image

-- At each moment of a call, where the manifest and the live log were at rest.
abbrev pub Writes : WalRecord → ℕ → State → State → Type 0
Writes r file old new = IsAtRest (file_of old 0) → IsAtRest (file_of old file) → During old new (MayHaveSaid r file old)

-- the record that a store writes next with this body
abbrev pub next_record : KvState → WalBody → WalRecord
next_record kv body = record_of kv.log body

-- its length
abbrev pub size_next : KvState → WalBody → ℕ
size_next kv body = length (record_bytes (next_record kv body))

-- what a store is after a record with this body, by which this is pending and this the last sequence number
pub record HasWritten (body : WalBody) (pending : Option Prepared) (last : ℕ) (old new : KvState) : Type 0 where
  pub log : new.log ≡ log_with (size_next old body) pending last old.log
  pub manifest : new.manifest ≡ old.manifest

-- every version that stood before, and those of the batch in each family's order
pub record HasVersions (sequence : ℕ) (batch : List Operation) (old new : KvState) (image : Image) : Type 0 where
  pub each : (f : ℕ) → versions_in new image f ≡ with_operations (direction (family_at new.families f)) f sequence batch (versions_in old image f)

-- a batch that was pending is added to its families
abbrev pub AddsPending : KvState → KvState → Type 0
AddsPending old new = IfSome old.log.pending (λ p. Added p.sequence p.operations old.families new.families)
