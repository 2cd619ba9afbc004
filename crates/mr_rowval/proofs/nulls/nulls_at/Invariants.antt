use Rattle.std.proofs.Common.{◌≡◌, ◌-◌, ◌≤◌, length}
use Rattle.mr_rowval.specs.NullBits.{flags_read}
use Rattle.mr_rowval.specs.Walking.{bits_read}
use Rattle.mr_rowval.proofs.Loops.{behind_flags}
use Rattle.mr_rowval.proofs.nulls.nulls_at.Given as goal

abbrev pub invariant-loop : goal.invariant-loop
invariant-loop l = (behind_flags (flags_read l.count 0 0 l.bytes) ≡ behind_flags (bits_read (l.count - l.counter) l.bits)) × (length l.bits.rest.now ≤ length l.bytes)
