-- An engine log that is open, and what it stands for.
use Rattle.std.specs.Prelude.{◌≡◌, ◌⊎◌, ℕ, ◌+◌, ◌-◌, min, ◌<◌, ◌≤◌, ◌^◌, IsTrue, List, [], Option, None, IsSome, Ok}
use Rattle.mr_base.specs.Disk.{State, Tells, HasRisen, file_of}
use Rattle.mr_base.specs.declared.stop.Stop.{Stop}
use Rattle.mr_base.specs.declared.stop.Stop.TheVariants.{Memory, Disk, Full, Damaged}
use Rattle.mr_base.specs.declared.stop.FullKind.TheVariants.{Sequence}
use Rattle.mr_wal.specs.declared.record.WalBody.{WalBody}
use Rattle.mr_wal.specs.declared.record.WalBody.TheVariants.{Prepare, Plain, Decided}
use Rattle.mr_wal.specs.declared.record.WalRecord.{WalRecord}
use Rattle.mr_wal.specs.declared.operation.Operation.{Operation}
use Rattle.mr_gate.specs.Log.{end_from}
use Rattle.mr_gate.specs.Gate.{Gate, Stands, IsUntouched, HasNoRoom, full, appended}
use Rattle.mr_engine_log.specs.Logged.{Logged, log_of, undecided, with_body, rest_of}
use Rattle.mr_engine_log.specs.declared.batched.Batched.{Batched}
use Rattle.mr_engine_log.specs.declared.batched.Prepared.{Prepared}
use Rattle.mr_engine_log.specs.declared.reader.Left.{Left}

-- A log that is open: its gate, the last sequence number before its first record, the prepare that isn't decided, the last sequence
-- number, and the verdict on the log's last prepare that no record has yet (0 is none, 1 committed, 2 abandoned).
pub record LogState : Type 0 where
  pub gate : Gate
  pub base : ℕ
  pub pending : Option Prepared
  pub last : ℕ
  pub verdict : ℕ

-- a verdict that no record has yet is on a prepare that is pending in the log
abbrev pub IsVerdictOn : ℕ → Option Prepared → Type 0
IsVerdictOn verdict pending = (verdict ≡ 0) ⊎ ((verdict < 3) × IsSome pending)

-- what the log's records leave, beside what is known in memory: the verdict that no record has yet
pub record Holds (log : LogState) (file : List ℕ) : Type 0 where
  pub stands : Stands log.gate file
  pub end : log.gate.end ≡ end_from 0 file
  pub logged : Logged
  pub reads : log_of log.base file ≡ Ok logged
  pub verdict : IsVerdictOn log.verdict logged.pending
  pub pending : log.pending ≡ undecided log.verdict logged.pending
  pub last : log.last ≡ logged.last

-- it may be called
pub record IsReady (log : LogState) (s : State) : Type 0 where
  pub is_open : IsTrue log.gate.is_open
  pub verdict : log.verdict < 3
  pub holds : Tells s → Holds log (file_of s log.gate.file).bytes

-- what a reading of all records of the file leaves
pub record IsLeftBy (base : ℕ) (file : List ℕ) (left : Left) : Type 0 where
  pub batches : List Batched
  pub reads : log_of base file ≡ Ok (rest_of left.pending left.last left.in_turn batches)
  pub end : left.end ≡ end_from 0 file

-- the record that a log gets next
abbrev pub record_of : LogState → WalBody → WalRecord
record_of log body = record { verdict = log.verdict; body = body }

-- no sequence number is left, and the answer that says so
abbrev pub HasNoNumber : ℕ → Type 0
HasNoNumber last = 2 ^ 63 ≤ last + 1

abbrev pub no_number : ℕ → Stop
no_number last = Full Sequence (min (last + 1) (2 ^ 64 - 1)) (2 ^ 63)

-- a record with a body of n bytes has room
abbrev pub HasRoom : LogState → ℕ → Type 0
HasRoom log n = HasNoRoom log.gate n → ⊥

-- why a record isn't added that has room: a fault of the disk, or want of memory before the disk was touched
abbrev pub IsAddStop : State → State → Stop → Type 0
IsAddStop old new Disk = HasRisen old.faults new.faults
IsAddStop old new Memory = IsUntouched old new
IsAddStop old new (Full what at limit) = ⊥
IsAddStop old new (Damaged file at) = ⊥

-- why a call that appends a record with a body of n bytes stops: at a fault of the disk, or before it touched the disk
abbrev pub IsRecordStop : Gate → ℕ → State → State → Stop → Type 0
IsRecordStop log n old new Disk = HasRisen old.faults new.faults
IsRecordStop log n old new Memory = IsUntouched old new
IsRecordStop log n old new (Full what at limit) = (Full what at limit ≡ full log) × HasNoRoom log n × IsUntouched old new
IsRecordStop log n old new (Damaged file at) = ⊥

-- the log is told to be full before the numbers are
abbrev pub IsAppendStop : LogState → ℕ → State → State → Stop → Type 0
IsAppendStop log n old new stop = IsRecordStop log.gate n old new stop ⊎ ((stop ≡ no_number log.last) × HasNoNumber log.last × HasRoom log n × IsUntouched old new)

-- why a log is full for a record with a body of n bytes: its file before its numbers
abbrev pub IsFullBy : Gate → ℕ → ℕ → Stop → Type 0
IsFullBy gate last n stop = ((stop ≡ full gate) × HasNoRoom gate n) ⊎ ((stop ≡ no_number last) × HasNoNumber last × (HasNoRoom gate n → ⊥))

abbrev pub IsFullFor : LogState → ℕ → Stop → Type 0
IsFullFor log n stop = IsFullBy log.gate log.last n stop

-- the operations of a record
abbrev pub operations_of : WalBody → List Operation
operations_of (Prepare k sequence batch) = batch
operations_of (Plain sequence batch) = batch
operations_of Decided = []

-- a prepare of a commit
abbrev pub prepared : ℕ → ℕ → List Operation → Prepared
prepared k sequence batch = record { commit = k; sequence = sequence; operations = batch }

-- the log after a record with a body of n bytes, by which this is pending and this the last sequence number
abbrev pub with_record : ℕ → Option Prepared → ℕ → LogState → LogState
with_record n pending last log = record { gate = appended log.gate n; base = log.base; pending = pending; last = last; verdict = 0 }

-- a log where nothing is pending
abbrev pub log_with : Gate → ℕ → ℕ → ℕ → LogState
log_with gate base last verdict = record { gate = gate; base = base; pending = None; last = last; verdict = verdict }

-- what is left beside the batches by a record with this body, where nothing was pending and this was the last sequence number
abbrev pub Leaves : WalBody → ℕ → Option Prepared → ℕ → Type 0
Leaves body last pending' last' = (l : Logged) → l.pending ≡ None → l.last ≡ last → ((with_body body l).pending ≡ pending') × ((with_body body l).last ≡ last')

-- the log with a verdict on its last prepare
abbrev pub with_verdict : ℕ → LogState → LogState
with_verdict verdict log = record { gate = log.gate; base = log.base; pending = None; last = log.last; verdict = verdict }

-- an open log of a file, which is not to pass 2^40 bytes, with what its records left
pub record IsOpened (number first : ℕ) (undecided' : Option Prepared) (last' : ℕ) (log : LogState) : Type 0 where
  pub is_open : IsTrue log.gate.is_open
  pub file : log.gate.file ≡ number
  pub limit : log.gate.limit ≡ 2 ^ 40
  pub base : log.base ≡ first
  pub pending : log.pending ≡ undecided'
  pub last : log.last ≡ last'
  pub verdict : log.verdict ≡ 0
