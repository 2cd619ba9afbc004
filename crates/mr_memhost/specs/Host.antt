-- What a host in memory tells beside its disk: the calls made, and those that are to fail.
use Rattle.std.specs.Prelude.{◌≡◌, ℕ, ◌+◌, ◌-◌, ◌^◌, min, max, Bool, false, ◌||◌, nat_lt, nat_eq, if◌then◌else◌, List, [], Option, Some, None}
use Rattle.std.specs.List.{list_any}
use Rattle.mr_base.specs.Disk.{State, MayLeave, file_of}
use Rattle.mr_memhost.specs.declared.host.MemHost.{MemHost}
use Rattle.mr_memhost.specs.Story.{state}
use Rattle.mr_memhost.specs.Told.{story}

abbrev pub disk_state : MemHost → State
disk_state host = state (story host.journal) host.counts

-- a crash may leave what a read gives
pub read_left : (host : MemHost) (file : ℕ) → MayLeave (file_of (disk_state host) file) (file_of (disk_state host) file).bytes
read_left host file = (host.journal.kept.files file).read_left

-- the calls made so far, the numbers of those that fail, and the last one before all fail
pub record Plan : Type 0 where
  pub calls : ℕ
  pub failing : List ℕ
  pub stop : Option ℕ

abbrev pub plan : MemHost → Plan
plan host = record { calls = host.counts.calls; failing = host.failing.items; stop = host.stop }

-- a count that goes up by this much, to the type's end at most
abbrev pub raised : ℕ → ℕ → ℕ
raised by count = max count (min (count + by) (2 ^ 64 - 1))

abbrev pub called : Plan → Plan
called p = record { calls = raised 1 p.calls; failing = p.failing; stop = p.stop }

abbrev pub is_past : Option ℕ → ℕ → Bool
is_past None number = false
is_past (Some last) number = nat_lt last number

-- whether the next call is listed, or comes after the stop
abbrev pub is_due : Plan → Bool
is_due p = is_past p.stop (raised 1 p.calls) || list_any (λ n. nat_eq n (raised 1 p.calls)) p.failing

-- The exact counts of a call of the disk, which fails or not.
pub record Counted (r a s : ℕ) (is_fault : Bool) (old new : MemHost) : Type 0 where
  pub made : plan new ≡ called (plan old)
  pub faults : (disk_state new).faults ≡ (if is_fault then raised 1 (disk_state old).faults else (disk_state old).faults)
  pub emit_faults : (disk_state new).emit_faults ≡ (disk_state old).emit_faults
  pub reads : (disk_state new).reads ≡ raised r (disk_state old).reads
  pub asked : (disk_state new).asked ≡ raised a (disk_state old).asked
  pub syncs : (disk_state new).syncs ≡ raised s (disk_state old).syncs

-- and of a call that emits
pub record EmitCounted (is_fault : Bool) (old new : MemHost) : Type 0 where
  pub made : plan new ≡ called (plan old)
  pub emit_faults : (disk_state new).emit_faults ≡ (if is_fault then raised 1 (disk_state old).emit_faults else (disk_state old).emit_faults)

-- Only the list of calls that are to fail differs.
pub record IsSameDisk (old new : MemHost) : Type 0 where
  pub disk : disk_state new ≡ disk_state old
  pub calls : (plan new).calls ≡ (plan old).calls

-- no call was made, none is to fail, and all counts are 0
abbrev pub IsFresh : MemHost → Type 0
IsFresh host = (host.counts ≡ record { calls = 0; faults = 0; emit_faults = 0; reads = 0; asked = 0; syncs = 0 }) × (plan host ≡ record { calls = 0; failing = []; stop = None }) × ((disk_state host).now ≡ 0)
