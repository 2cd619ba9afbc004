-- Versions in memory that are added to a run.
use Rattle.std.specs.Prelude.{◌≡◌, ◌+◌, List, [], ◌++◌, length}
use Rattle.mr_base.specs.Disk.{State, Tells, file_of}
use Rattle.mr_base.specs.Calls.{Counts}
use Rattle.mr_iter.specs.Versions.{Version}
use Rattle.mr_iter.specs.Cursors.{CursorState, left}
use Rattle.mr_iter.specs.RunOuts.{KeepsOthers}
use Rattle.mr_run_writer.specs.Drafts.{versions_of, Stands}
use Rattle.mr_run_writer.specs.declared.writer.RunWriter.{RunWriter}

-- what is left of a cursor that reads no file
abbrev pub left_in_memory : CursorState → List Version
left_in_memory c = left c (λ file. [])

-- From one cursor to the next each version was added behind the others, and the run's file is as its writer left it.
pub record Adds (before after : CursorState) (w w' : RunWriter) (s s' : State) : Type 0 where
  pub file : w'.buffer.file ≡ w.buffer.file
  pub counts : Counts 0 0 0 s s'
  pub others : Tells s → KeepsOthers w.buffer.file s s'
  pub stands : Tells s → Stands w' (file_of s' w.buffer.file).bytes
  pub entries : Tells s → w'.entries + length (left_in_memory after) ≡ w.entries + length (left_in_memory before)
  pub list : Tells s → versions_of w' (file_of s' w.buffer.file).bytes ++ left_in_memory after ≡ versions_of w (file_of s w.buffer.file).bytes ++ left_in_memory before
