-- What the readers give that copy what they read. Want of memory says nothing of the bytes.
use Rattle.std.specs.Prelude.{◌≡◌, ℕ, List, [], ◌++◌, length, Result, Ok, Err}
use Rattle.std.specs.Borrow.{Bor}
use Rattle.mr_wal.specs.declared.operation.Operation.{Operation}
use Rattle.mr_wal.specs.declared.record.WalBody.{WalBody}
use Rattle.mr_wal.specs.declared.stop.ReadStop.{ReadStop}
use Rattle.mr_wal.specs.declared.record.WalRecord.{WalRecord}
use Rattle.mr_wal.specs.declared.stop.ReadStop.TheVariants.{Memory as NoMemory, Left}
use Rattle.mr_base.specs.declared.stop.DefAnswer.{DefAnswer}
use Rattle.mr_base.specs.declared.stop.DefAnswer.TheVariants.{Memory, Malformed}
use Rattle.mr_wal.specs.Fields.{Read}

abbrev pub IsStop : {X : Type 0} → ReadStop → Result X ℕ → Type 0
IsStop NoMemory read = Unit {0}
IsStop (Left left) read = read ≡ Err left

abbrev pub BatchGiven : Result (List Operation × Bor (List ℕ)) ReadStop → Read (List Operation) → Type 0
BatchGiven (Ok r) read = read ≡ Ok (r.0, r.1.now)
BatchGiven (Err stop) read = IsStop stop read

abbrev pub BodyGiven : Result WalBody ReadStop → Result WalBody ℕ → Type 0
BodyGiven (Ok body) read = read ≡ Ok body
BodyGiven (Err stop) read = IsStop stop read

-- these operations in front of those that are read
abbrev pub with_front : List Operation → Read (List Operation) → Read (List Operation)
with_front os (Ok r) = Ok (os ++ r.0, r.1)
with_front os (Err left) = Err left

abbrev pub ends : Result (Unit {0}) ℕ → List ℕ → Type 0
ends (Ok u) bytes = bytes ≡ []
ends (Err left) bytes = (left ≡ length bytes) × (bytes ≡ [] → ⊥)

abbrev pub RecordGiven : Result WalRecord ReadStop → Result WalRecord ℕ → Type 0
RecordGiven (Ok r) read = read ≡ Ok r
RecordGiven (Err stop) read = IsStop stop read

-- an offence is told at its place
abbrev pub IsAnswer : Result WalRecord ℕ → DefAnswer → Type 0
IsAnswer read Memory = Unit {0}
IsAnswer read (Malformed at) = read ≡ Err at
