-- Why a script isn't answered.
use Rattle.std.specs.Prelude.{◌<◌, ◌^◌, IsTrue, length}
use Rattle.mr_base.specs.Disk.{HasRisen}
use Rattle.mr_base.specs.Source.{SourceState}
use Rattle.mr_reference.specs.declared.failure.Failure.{Failure}
use Rattle.mr_reference.specs.declared.failure.Failure.TheVariants.{Usage, Memory, Read, Write, TooLong}

-- the source, as it was and as it is left, has given cause for this failure; want of memory needs none
abbrev pub IsCause : SourceState → SourceState → Failure → Type 0
IsCause old new Usage = ⊥
IsCause old new Memory = Unit {0}
IsCause old new Read = HasRisen old.faults new.faults
IsCause old new Write = ⊥
IsCause old new TooLong = IsTrue old.tells → 2 ^ 30 < length old.left
