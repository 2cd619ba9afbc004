-- A log that is open, and what its calls do to the file.
use Rattle.std.specs.Prelude.{◌≡◌, ◌⊎◌, ℕ, ◌+◌, ◌<◌, Bool, true, false, List, [], ◌∷◌, ◌++◌, length, take, drop, Option, Some, None}
use Rattle.mr_base.specs.Disk.{State, Tells}
use Rattle.mr_base.specs.Calls.{Same, Counts, Rises}
use Rattle.mr_base.specs.declared.stop.Stop.{Stop}
use Rattle.mr_base.specs.declared.stop.Stop.TheVariants.{Full, Damaged}
use Rattle.mr_base.specs.declared.stop.FullKind.TheVariants.{Log}
use Rattle.mr_gate.specs.Log.{records_from, end_from, is_damaged_from, IsLog, span}

-- where it begins, where its records end, how many there are, and the length that it is not to pass
pub record Gate : Type 0 where
  pub file : ℕ
  pub from : ℕ
  pub end : ℕ
  pub records : ℕ
  pub limit : ℕ
  pub is_open : Bool

-- after a record with a body of n bytes, and after a call that stopped
abbrev pub appended : Gate → ℕ → Gate
appended log n = record { file = log.file; from = log.from; end = log.end + (5 + n); records = log.records + 1; limit = log.limit; is_open = true }

abbrev pub closed : Gate → Gate
closed log = record { file = log.file; from = log.from; end = log.end; records = log.records; limit = log.limit; is_open = false }

-- the file, as long as it is, has no room below the limit for a record with a body of n bytes, and the answer that says so
abbrev pub HasNoRoom : Gate → ℕ → Type 0
HasNoRoom log n = log.limit < log.end + 1 + (5 + n)

abbrev pub full : Gate → Stop
full log = Full (Log log.file) (log.end + 1) log.limit

-- the log stands for these bytes: it counts their records, and a closed gate is all that stands at its end
pub record Stands (log : Gate) (file : List ℕ) : Type 0 where
  pub sound : is_damaged_from log.from file ≡ false
  pub end : log.end ≡ end_from log.from file
  pub closed : drop log.end file ≡ 0 ∷ []
  pub count : log.records ≡ length (records_from log.from file)

-- From each place whose records ended at that end, the file has the records from before, or these and one more.
abbrev pub IsBeforeOrAfter : ℕ → List ℕ → List ℕ → List ℕ → Type 0
IsBeforeOrAfter end body old file = (from : ℕ) (bodies : List (List ℕ)) → IsLog from bodies old → from + span bodies ≡ end → IsLog from bodies file ⊎ IsLog from (bodies ++ body ∷ []) file

-- from each such place it has these and one more
abbrev pub IsAfter : ℕ → List ℕ → List ℕ → List ℕ → Type 0
IsAfter end body old file = (from : ℕ) (bodies : List (List ℕ)) → IsLog from bodies old → from + span bodies ≡ end → IsLog from (bodies ++ body ∷ []) file

-- whatever from some place had its records' end there has them still
abbrev pub KeepsLog : ℕ → List ℕ → List ℕ → Type 0
KeepsLog end old file = (from : ℕ) (bodies : List (List ℕ)) → IsLog from bodies old → from + span bodies ≡ end → IsLog from bodies file

-- there is damage at that place
pub record IsDamage (number from : ℕ) (file : List ℕ) (stop : Stop) : Type 0 where
  pub damaged : is_damaged_from from file ≡ true
  pub is : stop ≡ Damaged number (end_from from file)

-- it says that this file is damaged, at some place
abbrev pub SaysDamage : ℕ → Stop → Type 0
SaysDamage number stop = (at : ℕ) × (stop ≡ Damaged number at)

-- the records from this place on end there: it is where one begins, or the end
abbrev pub Reaches : ℕ → ℕ → List ℕ → Type 0
Reaches end at file = at + span (records_from at file) ≡ end

-- what is next at a place: nothing, or a record's body, and the place behind it from which the other records are read
abbrev pub IsNext : ℕ → List ℕ → Option (List ℕ × ℕ) → Type 0
IsNext at file None = records_from at file ≡ []
IsNext at file (Some r) = (records_from at file ≡ r.0 ∷ records_from r.1 file) × (r.1 ≡ at + (5 + length r.0))

-- the bytes of the record at a place, none at the end
abbrev pub next_size : ℕ → List ℕ → ℕ
next_size at file = span (take 1 (records_from at file))

-- a call that wrote nothing and put nothing on the disk
pub record OnlyReads (old new : State) : Type 0 where
  pub rises : Rises 0 old new
  pub same : Tells old → Same old new

-- and that read nothing either
pub record IsUntouched (old new : State) : Type 0 where
  pub counts : Counts 0 0 0 old new
  pub same : Tells old → Same old new
