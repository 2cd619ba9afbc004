-- A script that is taken from a source in pieces.
use Rattle.std.specs.Prelude.{◌≡◌, ℕ, ◌+◌, ◌^◌, ◌≤◌, ◌<◌, List, [], ◌++◌, length, take, IsTrue, Option, Some, None, ◌||◌}
use Rattle.mr_base.specs.Disk.{State, Tells, present}
use Rattle.mr_base.specs.Source.{SourceState, ClockState}
use Rattle.mr_spec.specs.ScriptRun.{Event, run_of, trace, output_of, added_by, has_error, statements_of}
use Rattle.mr_spec.specs.World.{World}
use Rattle.mr_types.specs.declared.row.Commit.{Commit}
use Rattle.mr_commit_log.specs.Appending.{IsSettled}
use Rattle.mr_commit_log.specs.Room.{log_length, HasRoom}
use Rattle.mr_commit_log.specs.declared.ending.Ending.{Ending}
use Rattle.mr_commit_log.specs.declared.ending.Ending.TheVariants.{Stopped, EmitFault, SourceFault, TooLong}
use Rattle.mr_serve.specs.Serving.{Stands}
use Rattle.mr_serve.specs.Settled.{IsUnfinished, Runs}
use Rattle.mr_serve.specs.declared.server.Server.{Server}
use Rattle.mr_run.specs.Cutting.{statements_in}

-- the run of those statements whose `;` is among the first bytes of a script
abbrev pub run_of_taken : ℕ → List ℕ → (ℕ → ℕ) → World → List Event
run_of_taken taken script clock w = trace w (statements_in [] (take taken script)) clock

-- How many bytes were taken, and what became of the statements that ended among them. They were all served where the source failed
-- or gave a byte too many. If that byte is there and something else ended the run early, some reply of theirs isn't wholly out.
abbrev pub IsPart : ℕ → Option Ending → ℕ → List Event → List Commit → List ℕ → State → Type 0
IsPart most None taken events commits output s = taken ≤ 2 ^ 30
IsPart most (Some SourceFault) taken events commits output s = (taken ≤ 2 ^ 30) × IsSettled s (commits ++ added_by events) (output ++ output_of events) × HasRoom most (log_length commits) (added_by events)
IsPart most (Some TooLong) taken events commits output s = (taken ≡ 2 ^ 30 + 1) × IsSettled s (commits ++ added_by events) (output ++ output_of events) × HasRoom most (log_length commits) (added_by events)
IsPart most (Some EmitFault) taken events commits output s = 2 ^ 30 < taken → IsUnfinished EmitFault events output (present s).output
IsPart most (Some (Stopped stop)) taken events commits output s = 2 ^ 30 < taken → IsUnfinished (Stopped stop) events output (present s).output

-- a script was served at values of the clock, in a world that the server stood for
pub record ServesBytes (script : List ℕ) (taken : ℕ) (old new : Server) (clock_old : ClockState) (host_old host_new : State) (ending : Option Ending) (w : World) : Type 0 where
  pub clock : ℕ → ℕ
  pub told : IsTrue clock_old.tells → (k : ℕ) → clock k ≡ clock_old.values k
  pub runs : Runs old.log.gate.limit host_old host_new old.replies new.replies (run_of script clock w) ending w.commits
  pub failed : ending ≡ None → new.failed ≡ (old.failed || has_error (run_of script clock w))
  pub part : Tells host_old → (output : List ℕ) → IsSettled host_old w.commits output → IsPart old.log.gate.limit ending taken (run_of_taken taken script clock w) w.commits output host_new

-- There is a script, the source's own where it tells, of which so many bytes were taken, and it was served. The clock has moved by one
-- value for each of its statements.
pub record ServesScript (source : SourceState) (taken : ℕ) (old new : Server) (clock_old clock_new : ClockState) (host_old host_new : State) (ending : Option Ending) : Type 0 where
  pub script : List ℕ
  pub told : IsTrue source.tells → script ≡ source.left
  pub enough : taken ≤ length script
  pub all_taken : ending ≡ None → taken ≡ length script
  pub serves : (w : World) → Stands old w → ServesBytes script taken old new clock_old host_old host_new ending w
  pub later : ending ≡ None → IsTrue clock_old.tells → (k : ℕ) → clock_new.values k ≡ clock_old.values (length (statements_of script) + k)

-- so many bytes were taken from the source, where it tells, and whether it does stays
pub record IsTaken (old new : SourceState) (taken : ℕ) : Type 0 where
  pub tells : new.tells ≡ old.tells
  pub bytes : List ℕ
  pub count : taken ≡ length bytes
  pub moved : IsTrue old.tells → old.left ≡ bytes ++ new.left
