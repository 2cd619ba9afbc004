-- One record more in an engine log.
use Rattle.std.specs.Prelude.{◌≡◌, ◌⊎◌, ℕ, ◌^◌, ◌<◌, false, List, Ok}
use Rattle.mr_base.specs.Disk.{State, present, file_of, IsAtRest}
use Rattle.mr_base.specs.Calls.{During, OneFile}
use Rattle.mr_wal.specs.declared.record.WalBody.{WalBody}
use Rattle.mr_wal.specs.declared.record.WalBody.TheVariants.{Prepare, Plain, Decided}
use Rattle.mr_wal.specs.declared.record.WalRecord.{WalRecord}
use Rattle.mr_wal.specs.EngineLog.{record_bytes}
use Rattle.mr_engine_log.specs.Logged.{Logged, log_of, applied, is_wrong_verdict}

-- the record has the verdict that is due
abbrev pub IsDue : WalRecord → Logged → Type 0
IsDue r l = is_wrong_verdict l.pending (record_bytes r) ≡ false

-- where the record was due the log has it now, and before or now
abbrev pub HasRecord : WalRecord → List ℕ → List ℕ → Type 0
HasRecord r old new = (last : ℕ) (l : Logged) → log_of last old ≡ Ok l → IsDue r l → log_of last new ≡ Ok (applied r l)

abbrev pub MayHaveRecord : WalRecord → List ℕ → List ℕ → Type 0
MayHaveRecord r old file = (last : ℕ) (l : Logged) → log_of last old ≡ Ok l → IsDue r l → (log_of last file ≡ Ok l) ⊎ (log_of last file ≡ Ok (applied r l))

-- what the log left it leaves still
abbrev pub KeepsLogged : List ℕ → List ℕ → Type 0
KeepsLogged old file = (last : ℕ) (l : Logged) → log_of last old ≡ Ok l → log_of last file ≡ Ok l

-- At each moment of a call a crash leaves of the log, where it was at rest, what it left or that with the record, and the other files as they were.
abbrev pub Records : WalRecord → ℕ → State → State → Type 0
Records r file old new = During old new (OneFile file (present old) (λ c. IsAtRest (file_of old file) → MayHaveRecord r (file_of old file).bytes c))

-- ---- a record that keeps the rules on verdicts and sequence numbers

abbrev pub KeepsNumbers : WalBody → Type 0
KeepsNumbers (Prepare commit sequence operations) = sequence < 2 ^ 63
KeepsNumbers (Plain sequence operations) = sequence < 2 ^ 63
KeepsNumbers Decided = Unit {0}

pub record KeepsRules (r : WalRecord) : Type 0 where
  pub verdict : r.verdict < 3
  pub numbers : KeepsNumbers r.body
