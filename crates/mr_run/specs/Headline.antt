-- The promise of a run.
use Rattle.std.specs.Prelude.{◌≡◌, ◌≢◌, ◌⊎◌, ℕ, ◌<◌, ◌≤◌, ◌+◌, ◌^◌, List, [], ◌∷◌, ◌++◌, length, IsTrue, Option, Some, None, if◌then◌else◌}
use Rattle.mr_base.specs.Disk.{State, Moment, Image, Tells, Leaves, HasRisen, IsAtRest, present, seen, file_of}
use Rattle.mr_base.specs.Calls.{During}
use Rattle.mr_base.specs.Source.{SourceState, ClockState}
use Rattle.mr_base.specs.declared.stop.Stop.{Stop}
use Rattle.mr_base.specs.declared.stop.Stop.TheVariants.{Memory, Disk, Full, Damaged}
use Rattle.mr_base.specs.declared.stop.FullKind.{FullKind}
use Rattle.mr_base.specs.declared.stop.FullKind.TheVariants.{Log}
use Rattle.mr_spec.specs.Replay.{reopened}
use Rattle.mr_spec.specs.ScriptRun.{Event, IsWithin, run_of, output_of, added_by, has_error}
use Rattle.mr_types.specs.declared.row.Commit.{Commit}
use Rattle.mr_commit_log.specs.Causes.{IsFull}
use Rattle.mr_commit_log.specs.Folder.{StandsFor}
use Rattle.mr_commit_log.specs.Opening.{IsDamagedAt}
use Rattle.mr_commit_log.specs.Room.{record_size, log_length, HasRoom}
use Rattle.mr_serve.specs.Replied.{replied}
use Rattle.mr_serve.specs.Settled.{IsFront, counted}
use Rattle.mr_run.specs.Reading.{run_of_taken}
use Rattle.mr_run.specs.declared.top_call.Report.{Report}

-- At each moment, for each image that a stop then may leave: the image is valid, and its commits are those from before and the
-- first of the run's, so many that each whose reply is out is there, and at most one statement's more.
abbrev pub IsCrashPrefix : List Event → List Commit → List ℕ → Moment → Type 0
IsCrashPrefix events commits output m = (image : Image) → Leaves m image → (now : List Commit) × StandsFor image now × IsWithin events commits output now m.output

-- the status of a run that came to its end: 1 where some reply was an error
abbrev pub end_status : List Event → ℕ
end_status events = if has_error events then 1 else 0

-- These events and no others ran: what they reply is out, their commits are there with nothing pending, and the log had room for them.
pub record HaveRun (most : ℕ) (events : List Event) (commits : List Commit) (old new : State) : Type 0 where
  pub all_out : (present new).output ≡ (present old).output ++ output_of events
  pub all_there : StandsFor (seen new) (commits ++ added_by events)
  pub at_rest : IsAtRest (file_of new 1)
  pub room : HasRoom most (log_length commits) (added_by events)

-- the run came to its end: the source is at its end, the whole script was taken and is no longer than a script may be, and all events ran
pub record IsComplete (most : ℕ) (script : List ℕ) (taken : ℕ) (events : List Event) (commits : List Commit) (source_old source_new : SourceState) (old new : State) (status : ℕ) : Type 0 where
  pub ended : IsTrue source_old.tells → source_new.left ≡ []
  pub all_taken : taken ≡ length script
  pub short : taken ≤ 2 ^ 30
  pub whole : HaveRun most events commits old new
  pub errors : status ≡ end_status events

-- the source gave the byte that no script may have, and all that these events reply is out
pub record IsTooLong (events : List Event) (taken : ℕ) (old new : State) : Type 0 where
  pub taken_is : taken ≡ 2 ^ 30 + 1
  pub all_out : (present new).output ≡ (present old).output ++ output_of events

-- the source gave more bytes than a script may have, and all that these events reply is out, whatever stands behind it
pub record IsPastLimit (events : List Event) (taken : ℕ) (old new : State) : Type 0 where
  pub more : 2 ^ 30 < taken
  pub beyond : List ℕ
  pub out : (present new).output ≡ (present old).output ++ (output_of events ++ beyond)

-- The first events ran, and of the next one so much that its next commit would take the log, which is all that its file has, past its
-- limit: the first of its commits are there, and nothing of its reply is out. The stop says so.
pub record IsStoppedFull (most : ℕ) (events : List Event) (commits : List Commit) (old new : State) (stop : Option Stop) : Type 0 where
  pub first : List Event
  pub next : Event
  pub others : List Event
  pub split : events ≡ first ++ next ∷ others
  pub begun : List Commit
  pub commit : Commit
  pub rest : List Commit
  pub adds : next.added ≡ begun ++ commit ∷ rest
  pub all_out : (present new).output ≡ (present old).output ++ output_of first
  pub all_there : StandsFor (seen new) ((commits ++ added_by first) ++ begun)
  pub at_rest : IsAtRest (file_of new 1)
  pub room : HasRoom most (log_length commits) (added_by first ++ begun)
  pub sum : length (seen new 1) ≡ log_length ((commits ++ added_by first) ++ begun)
  pub past : most < length (seen new 1) + record_size commit
  pub says : stop ≡ Some (Full (Log 1) (length (seen new 1)) most)

-- No fault was counted, and the log has room for each commit of these events.
pub record IsUndisturbed (most : ℕ) (events : List Event) (commits : List Commit) (source_old source_new : SourceState) (old new : State) : Type 0 where
  pub source : HasRisen source_old.faults source_new.faults → ⊥
  pub disk : HasRisen old.faults new.faults → ⊥
  pub output : HasRisen old.emit_faults new.emit_faults → ⊥
  pub room : HasRoom most (log_length commits) (added_by events)

-- but for want of memory
abbrev pub OrMemory : ℕ → Type 0 → Type 0
OrMemory status P = P ⊎ (status ≡ 3)

-- There are a script and values of the clock, the source's and the clock's own where these tell, so that the events of the script's
-- run, in the world that the commits at entry make, are what stands in the output and in the folder. The log is not to pass `most`
-- bytes.
pub record Headline (most : ℕ) (source_old source_new : SourceState) (clock_old : ClockState) (old new : State) (status : ℕ) (report : Report) (commits : List Commit) : Type 0 where
  pub script : List ℕ
  pub script_told : IsTrue source_old.tells → script ≡ source_old.left
  pub clock : ℕ → ℕ
  pub clock_told : IsTrue clock_old.tells → (k : ℕ) → clock k ≡ clock_old.values k
  -- at every moment the output is the one at entry and a front of the run's
  pub output_prefix : During old new (λ m. IsFront (run_of script clock (reopened commits)) (present old).output m.output)
  -- at every moment a stop leaves a valid folder, with the commits up to a prefix that has each one whose reply is out
  pub crash_prefix : During old new (IsCrashPrefix (run_of script clock (reopened commits)) commits (present old).output)
  -- the statuses 0 and 1 say that all was done
  pub complete_run : status < 2 → IsComplete most script report.taken (run_of script clock (reopened commits)) commits source_old source_new old new status
  -- the replies that were counted are those that are out
  pub replies : (shown : List ℕ) → (present new).output ≡ (present old).output ++ shown → counted report.statements ≡ counted (replied (run_of script clock (reopened commits)) shown)
  -- so many bytes of the script were taken, and the statuses 4 and 8 say that each statement that ended among them was served
  pub enough : report.taken ≤ length script
  pub cut_off : (status ≡ 4) ⊎ (status ≡ 8) → HaveRun most (run_of_taken report.taken script clock (reopened commits)) commits old new
  -- the status 8 says that the source gave a byte too many and all replies up to it are out; where it gave too many and they are
  -- out, it is 8
  pub too_long : status ≡ 8 → IsTooLong (run_of_taken report.taken script clock (reopened commits)) report.taken old new
  pub only_too_long : IsPastLimit (run_of_taken report.taken script clock (reopened commits)) report.taken old new → OrMemory status (status ≡ 8)
  -- the status 9 says that the log is full for the very next commit
  pub full : status ≡ 9 → IsStoppedFull most (run_of script clock (reopened commits)) commits old new report.stop
  -- undisturbed, a run comes to its end, or to the byte that no script may have
  pub completes : IsUndisturbed most (run_of script clock (reopened commits)) commits source_old source_new old new → length script ≤ 2 ^ 30 → OrMemory status (status < 2)
  pub reaches_limit : IsUndisturbed most (run_of script clock (reopened commits)) commits source_old source_new old new → 2 ^ 30 < length script → OrMemory status (status ≡ 8)

-- What is reported of a run that ended with this status: a stop on 3, 5, 7 and 9, and none on every other.
pub record IsReported (most : ℕ) (old new : State) (status : ℕ) (stop : Option Stop) : Type 0 where
  pub memory : status ≡ 3 → stop ≡ Some Memory
  pub disk : status ≡ 5 → stop ≡ Some Disk
  pub damaged : status ≡ 7 → (at : ℕ) × (stop ≡ Some (Damaged 1 at)) × (Tells old → IsDamagedAt (file_of old 1).bytes at)
  pub full : status ≡ 9 → (at : ℕ) × (limit : ℕ) × (stop ≡ Some (Full (Log 1) at limit)) × IsFull most new (Log 1) at limit
  pub only_full : (what : FullKind) (at limit : ℕ) → stop ≡ Some (Full what at limit) → status ≡ 9
  pub none : status ≢ 3 → status ≢ 5 → status ≢ 7 → status ≢ 9 → stop ≡ None
