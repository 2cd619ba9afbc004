use Rattle.mr_base.specs.Disk.{Tells, file_of}
use Rattle.mr_run_writer.specs.Drafts.{Stands}
use Rattle.mr_run_bench.proofs.work.write_run.Given as goal

abbrev pub invariant-adding : goal.invariant-adding
invariant-adding g l = Tells (g.D.Disk.disk l.disk) → Stands l.writer (file_of (g.D.Disk.disk l.disk) l.writer.buffer.file).bytes
