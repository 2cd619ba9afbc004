-- Why a call on the binary log or the output ends early, and what shows it.
use Rattle.std.specs.Prelude.{◌≡◌, ◌≢◌, ℕ, ◌+◌, ◌^◌, ◌<◌, ◌≤◌, length}
use Rattle.mr_base.specs.Disk.{State, Tells, HasRisen, present, file_of}
use Rattle.mr_base.specs.Calls.{During}
use Rattle.mr_base.specs.declared.stop.Stop.TheVariants.{Memory, Disk, Full, Damaged}
use Rattle.mr_base.specs.declared.stop.FullKind.{FullKind}
use Rattle.mr_base.specs.declared.stop.FullKind.TheVariants.{Log}
use Rattle.mr_commit_log.specs.declared.ending.Ending.{Ending}
use Rattle.mr_commit_log.specs.declared.ending.Ending.TheVariants.{Stopped, EmitFault, SourceFault, TooLong}

-- at each moment every file but the binary log is as it was
abbrev pub KeepsOthers : State → State → Type 0
KeepsOthers old new = During old new (λ m. (file : ℕ) → file ≢ 1 → m.files file ≡ (present old).files file)

-- whether a host tells stays, no count falls, and no file but the binary log is changed
pub record GoesOn (old new : State) : Type 0 where
  pub tells : new.tells ≡ old.tells
  pub faults : old.faults ≤ new.faults
  pub emit_faults : old.emit_faults ≤ new.emit_faults
  pub reads : old.reads ≤ new.reads
  pub asked : old.asked ≤ new.asked
  pub syncs : old.syncs ≤ new.syncs
  pub others : Tells old → KeepsOthers old new

-- The binary log has no room below its limit for some body of at most 2^29 bytes and the five bytes in front of it; where the host
-- tells, it is as long as is said.
pub record IsFull (most : ℕ) (new : State) (what : FullKind) (at limit : ℕ) : Type 0 where
  pub what_is : what ≡ Log 1
  pub limit_is : limit ≡ most
  pub body : ℕ
  pub short : body ≤ 2 ^ 29
  pub no_room : limit < at + (5 + body)
  pub length_is : Tells new → at ≡ length (file_of new 1).bytes

-- What a call shows that ends so: a fault rose its count; the binary log is full; nothing is damaged.
abbrev pub IsCausedBy : ℕ → State → State → Ending → Type 0
IsCausedBy most old new (Stopped Memory) = Unit {0}
IsCausedBy most old new (Stopped Disk) = HasRisen old.faults new.faults
IsCausedBy most old new (Stopped (Full what at limit)) = IsFull most new what at limit
IsCausedBy most old new (Stopped (Damaged file at)) = ⊥
IsCausedBy most old new EmitFault = HasRisen old.emit_faults new.emit_faults
IsCausedBy most old new SourceFault = ⊥
IsCausedBy most old new TooLong = ⊥
