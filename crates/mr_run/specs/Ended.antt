-- A run that opened a folder and served a script, before its status is told.
use Rattle.std.specs.Prelude.{◌≡◌, ℕ, List, Bool, IsTrue, Option, Some, None, Result, Ok, Err, ◌+◌, ◌≤◌, length}
use Rattle.mr_base.specs.Disk.{State, Tells, HasRisen, present, file_of}
use Rattle.mr_base.specs.Source.{SourceState, ClockState}
use Rattle.mr_base.specs.declared.stop.Stop.{Stop}
use Rattle.mr_base.specs.declared.stop.Stop.TheVariants.{Memory, Disk, Full, Damaged}
use Rattle.mr_spec.specs.Replay.{reopened}
use Rattle.mr_spec.specs.ScriptRun.{run_of, statements_of, has_error}
use Rattle.mr_types.specs.declared.row.Commit.{Commit}
use Rattle.mr_commit_log.specs.Appending.{early}
use Rattle.mr_commit_log.specs.Causes.{IsFull}
use Rattle.mr_commit_log.specs.Opening.{IsDamagedAt}
use Rattle.mr_commit_log.specs.declared.ending.Ending.{Ending}
use Rattle.mr_commit_log.specs.declared.ending.Ending.TheVariants.{Stopped, EmitFault, SourceFault, TooLong}
use Rattle.mr_serve.specs.Settled.{RunsFrom}
use Rattle.mr_run.specs.Reading.{IsPart, run_of_taken}

-- what is answered of a run that came to its end
abbrev pub AnswersError : Result Bool Ending → Bool → Type 0
AnswersError (Ok answer) error = answer ≡ error
AnswersError (Err ending) error = Unit {0}

-- there are a script and values of the clock, their own where they tell, and the script's events ran, wholly where it is Ok
pub record RunsWhole (most : ℕ) (source : SourceState) (taken : ℕ) (clock_old : ClockState) (old new : State) (statements : ℕ) (result : Result Bool Ending) (commits : List Commit) : Type 0 where
  pub script : List ℕ
  pub script_told : IsTrue source.tells → script ≡ source.left
  pub enough : taken ≤ length script
  pub all_taken : early result ≡ None → taken ≡ length script
  pub clock : ℕ → ℕ
  pub clock_told : IsTrue clock_old.tells → (k : ℕ) → clock k ≡ clock_old.values k
  pub runs : RunsFrom most old new 0 statements (run_of script clock (reopened commits)) (early result) commits (present old).output
  pub part : IsPart most (early result) taken (run_of_taken taken script clock (reopened commits)) commits (present old).output new
  pub error : AnswersError result (has_error (run_of script clock (reopened commits)))

-- what a run shows that ends so
abbrev pub IsRunCause : ℕ → SourceState → SourceState → State → State → ℕ → Ending → Type 0
IsRunCause most source_old source_new old new taken (Stopped Memory) = Unit {0}
IsRunCause most source_old source_new old new taken (Stopped Disk) = HasRisen old.faults new.faults
IsRunCause most source_old source_new old new taken (Stopped (Full what at limit)) = IsFull most new what at limit
IsRunCause most source_old source_new old new taken (Stopped (Damaged file at)) = (file ≡ 1) × (Tells old → IsDamagedAt (file_of old 1).bytes at)
IsRunCause most source_old source_new old new taken EmitFault = HasRisen old.emit_faults new.emit_faults
IsRunCause most source_old source_new old new taken SourceFault = HasRisen source_old.faults source_new.faults
IsRunCause most source_old source_new old new taken TooLong = taken ≡ 1073741825

-- a run that ends otherwise than for memory, the disk or damage has served a folder with P
abbrev pub IsServed : Result Bool Ending → Type 0 → Type 0
IsServed (Ok answer) P = P
IsServed (Err (Stopped Memory)) P = Unit {0}
IsServed (Err (Stopped Disk)) P = Unit {0}
IsServed (Err (Stopped (Damaged file at))) P = Unit {0}
IsServed (Err (Stopped (Full what at limit))) P = P
IsServed (Err EmitFault) P = P
IsServed (Err SourceFault) P = P
IsServed (Err TooLong) P = P

-- the clock has moved by one value for each statement of the script, where it and the source tell
abbrev pub HasMoved : SourceState → ClockState → ClockState → Type 0
HasMoved source old new = IsTrue source.tells → IsTrue old.tells → (k : ℕ) → new.values k ≡ old.values (length (statements_of source.left) + k)

-- a run that ends because of damage has taken nothing of the script and replied nothing
abbrev pub IsQuiet : Ending → ℕ → ℕ → Type 0
IsQuiet (Stopped Memory) taken statements = Unit {0}
IsQuiet (Stopped Disk) taken statements = Unit {0}
IsQuiet (Stopped (Full what at limit)) taken statements = Unit {0}
IsQuiet (Stopped (Damaged file at)) taken statements = (taken ≡ 0) × (statements ≡ 0)
IsQuiet EmitFault taken statements = Unit {0}
IsQuiet SourceFault taken statements = Unit {0}
IsQuiet TooLong taken statements = Unit {0}

-- what is reported of an ending, and its status
abbrev pub reported : Ending → Option Stop
reported (Stopped stop) = Some stop
reported EmitFault = None
reported SourceFault = None
reported TooLong = None

abbrev pub status : Ending → ℕ
status (Stopped Memory) = 3
status SourceFault = 4
status (Stopped Disk) = 5
status EmitFault = 6
status (Stopped (Damaged file at)) = 7
status TooLong = 8
status (Stopped (Full what at limit)) = 9
