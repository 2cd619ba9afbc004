use Rattle.std.proofs.Common.{◌≡◌, ◌<◌, ◌+◌, ◌++◌, length}
use Rattle.mr_base.specs.Disk.{Tells, file_of}
use Rattle.mr_base.specs.Calls.{Counts}
use Rattle.mr_iter.specs.RunOuts.{KeepsOthers}
use Rattle.mr_run_writer.specs.Buffers.{EndsAt, with_held, InLumps}
use Rattle.mr_run_writer.proofs.buffer.WriteBuffer.append.Given as goal

abbrev pub invariant-pieces : goal.invariant-pieces
invariant-pieces g l = record {
  file : l.self.file ≡ l.fn.self.file;
  counts : Counts 0 0 0 (g.D.Disk.disk l.fn.disk) (g.D.Disk.disk l.disk);
  others : Tells (g.D.Disk.disk l.fn.disk) → KeepsOthers l.fn.self.file (g.D.Disk.disk l.fn.disk) (g.D.Disk.disk l.disk);
  total : l.self.written + length l.self.held.items + length l.rest ≡ l.fn.self.written + length l.fn.self.held.items + length l.bytes;
  lumps : InLumps 65536 l.fn.self.written l.self.written;
  held : length l.fn.self.held.items < 65536 → length l.self.held.items < 65536;
  end : Tells (g.D.Disk.disk l.fn.disk) → EndsAt l.self.written (file_of (g.D.Disk.disk l.disk) l.fn.self.file).bytes;
  bytes : Tells (g.D.Disk.disk l.fn.disk) → with_held l.self.written l.self.held.items (file_of (g.D.Disk.disk l.disk) l.fn.self.file).bytes ++ l.rest ≡ with_held l.fn.self.written l.fn.self.held.items (file_of (g.D.Disk.disk l.fn.disk) l.fn.self.file).bytes ++ l.bytes;
}

abbrev pub decreases-pieces : goal.decreases-pieces
decreases-pieces g l = length l.rest
