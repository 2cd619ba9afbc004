-- A store that is open, what its files say of it, and when its calls may be made.
use Rattle.std.specs.Prelude.{◌≡◌, ◌<◌, ◌≤◌, ◌^◌, ℕ, IsTrue, IfSome, List, Ok}
use Rattle.mr_base.specs.Disk.{State, Tells, Image, seen, file_of}
use Rattle.mr_iter.specs.Versions.{Version}
use Rattle.mr_block_cache.specs.Cache.{AgreesWith}
use Rattle.mr_manifest.specs.Manifest.{StandsFor}
use Rattle.mr_engine_log.specs.Logged.{Logged, after_verdict}
use Rattle.mr_engine_log.specs.Standing.{IsReady as LogIsReady}
use Rattle.mr_family.specs.Family.{versions, IsTrueTo}
use Rattle.mr_families.specs.declared.numbered.Numbered.{Numbered}
use Rattle.mr_families.specs.Known.{family_at}
use Rattle.mr_families.specs.Batches.{AreAwaited}
use Rattle.mr_stored.specs.Begun.{Says}
use Rattle.mr_stored.specs.Names.{IsNaming}
use Rattle.mr_stored.specs.Offences.{runs_judged}
use Rattle.mr_store_memory.specs.Held.{Held, AreTurned}
use Rattle.mr_kv.specs.declared.kv.Kv.{Kv}

-- an open store: its manifest with what is live by it, its live log, and its families by their numbers
abbrev pub KvState : Type 0
KvState = Kv

-- no block of a file is held whose number isn't given out yet
abbrev pub AreUnread : ℕ → List Numbered → Type 0
AreUnread next ns = (f file : ℕ) (bytes : List ℕ) → next ≤ file → AgreesWith file bytes (family_at ns f).cached

-- The files say what is live and what the log's records leave; with the verdict that no record has yet, the families have the batches that
-- count over the live runs; and what is held of these is what their files have.
pub record Holds (kv : KvState) (image : Image) : Type 0 where
  pub logged : Logged
  pub says : Says image (record { live = kv.manifest.live; logged = logged })
  pub held : Held kv.families image kv.manifest.live.runs (after_verdict kv.log.verdict logged).batches
  pub judged : runs_judged image kv.manifest.live.runs ≡ Ok tt
  pub cached : (f : ℕ) → IsTrueTo image (family_at kv.families f)
  pub unread : AreUnread kv.manifest.live.next_file kv.families

-- there is room for a batch that is pending, and its number is one
abbrev pub Awaits : KvState → Type 0
Awaits kv = IfSome kv.log.pending (λ p. (p.sequence < 2 ^ 63) × AreAwaited kv.families p.operations)

-- the versions of a family
abbrev pub versions_in : KvState → Image → ℕ → List Version
versions_in kv image family = versions (family_at kv.families family) image

-- the versions that tell the families' directions
abbrev pub system : KvState → Image → List Version
system kv image = versions_in kv image 0

-- a pending batch names its families, as each batch has to
abbrev pub NamesPending : KvState → Image → Type 0
NamesPending kv image = IfSome kv.log.pending (λ p. IsNaming (system kv image) p.operations)

-- families that a pending batch names have their direction
abbrev pub IsTurned : KvState → Image → Type 0
IsTurned kv image = IfSome kv.log.pending (λ p. IsNaming (system kv image) p.operations → AreTurned kv.families p.operations)

-- its calls may be made
pub record IsReady (kv : KvState) (s : State) : Type 0 where
  pub is_open : IsTrue kv.manifest.gate.is_open
  pub manifest : Tells s → StandsFor kv.manifest (file_of s 0).bytes
  pub log : LogIsReady kv.log s
  pub file : kv.log.gate.file ≡ kv.manifest.live.log
  pub base : kv.log.base ≡ kv.manifest.live.last_sequence
  pub awaits : Awaits kv
  pub turned : Tells s → IsTurned kv (seen s)
  pub holds : Tells s → Holds kv (seen s)
