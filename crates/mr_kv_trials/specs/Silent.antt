-- A disk that tells nothing of what it has, and a store over it.
use Rattle.std.specs.Prelude.{false}
use Rattle.mr_base.specs.Disk.{State}
use Rattle.mr_memhost.specs.declared.host.MemHost.{MemHost}
use Rattle.mr_memhost.specs.Host.{disk_state}
use Rattle.mr_kv.specs.Store.{KvState, IsReady}

abbrev pub silent : State → State
silent s = record { tells = false; moments = s.moments; now = s.now; faults = s.faults; emit_faults = s.emit_faults; reads = s.reads; asked = s.asked; syncs = s.syncs }

-- its calls may be made
abbrev pub IsReadyOver : MemHost → KvState → Type 0
IsReadyOver host kv = IsReady kv (silent (disk_state host))
