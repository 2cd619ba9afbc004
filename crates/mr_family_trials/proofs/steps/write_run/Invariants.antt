use Rattle.mr_base.specs.Disk.{Tells, file_of}
use Rattle.mr_memhost.specs.Host.{disk_state}
use Rattle.mr_run_writer.specs.Drafts.{Stands}
use Rattle.mr_family_trials.proofs.steps.write_run.Given as goal

abbrev pub invariant-adding : goal.invariant-adding
invariant-adding l = Tells (disk_state l.host) → Stands l.writer (file_of (disk_state l.host) l.writer.buffer.file).bytes
