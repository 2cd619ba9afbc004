-- What a crash leaves by each choice.
use Rattle.std.specs.Prelude.{◌≡◌, ◌⊎◌, ℕ, ◌≤◌, ◌<◌, Bool, true, false, nat_lt, if◌then◌else◌, ◌==◌, List, [], length, get_or, take, replicate}
use Rattle.std.specs.BTreeMap.{get}
use Rattle.std.specs.Ordering.{nat_cmp}
use Rattle.std.specs.declared.alloc.Global.{Global}
use Rattle.std.specs.declared.collections.BTreeMap.{BTreeMap}
use Rattle.mr_base.specs.Disk.{File, IsIn, overwrite}
use Rattle.mr_memhost.specs.declared.choice.Choice.{Choice}
use Rattle.mr_memhost.specs.declared.choice.Choice.TheVariants.{Keep, Drop, Fill}
use Rattle.mr_memhost.specs.declared.choice.Fate.{Fate}
use Rattle.mr_memhost.specs.declared.choice.Fate.TheVariants.{Done, Undone, Filled}
use Rattle.mr_memhost.specs.declared.mem_file.MemFile.{MemFile}
use Rattle.mr_memhost.specs.declared.step.Step.{Step}
use Rattle.mr_memhost.specs.declared.step.Step.TheVariants.{Write, Cut, Sync, Emit}
use Rattle.mr_memhost.specs.Held.{held_in}

-- The length is as read, each unsynced byte is this one, and the others are as read. A byte is unsynced where it was written
-- since the last sync, or lies past the least length since then.
pub record FilledWith (byte : ℕ) (f : File) (c : List ℕ) : Type 0 where
  pub same_length : length c ≡ length f.bytes
  pub unsynced : (k : ℕ) → k < length f.bytes → IsIn f.written k ⊎ (f.least ≤ k) → get_or c k 0 ≡ byte
  pub synced : (k : ℕ) → k < f.least → (IsIn f.written k → ⊥) → get_or c k 0 ≡ get_or f.bytes k 0

-- what the choice leaves of a file
abbrev pub IsImage : Choice → File → List ℕ → Type 0
IsImage Keep f c = c ≡ f.bytes
IsImage Drop f c = c ≡ f.stable
IsImage (Fill byte) f c = FilledWith byte f c

-- what becomes of a call since the file's last sync
abbrev pub fate : Choice → Fate
fate Keep = Done
fate Drop = Undone
fate (Fill byte) = Filled byte

-- and of one before it or since
abbrev pub at_step : Fate → Bool → Fate
at_step unsynced true = Done
at_step unsynced false = unsynced

abbrev pub wrote_by : Fate → ℕ → List ℕ → List ℕ → List ℕ
wrote_by Done at bytes c = overwrite at bytes c
wrote_by Undone at bytes c = c
wrote_by (Filled byte) at bytes c = overwrite at (replicate (length bytes) byte) c

abbrev pub cut_by : Fate → ℕ → List ℕ → List ℕ
cut_by Done to c = take to c
cut_by Undone to c = c
cut_by (Filled byte) to c = take to c

-- how many steps there were at a file's last sync
abbrev pub synced_of : BTreeMap ℕ MemFile Global → ℕ → ℕ
synced_of files file = (held_in (get nat_cmp files file) []).synced

-- what the step with this number makes of a file's bytes in the image
abbrev pub remade : Fate → ℕ → (ℕ → ℕ) → Step → ℕ → List ℕ → List ℕ
remade unsynced number synced (Write file at bytes) f c = if f == file then wrote_by (at_step unsynced (nat_lt number (synced file))) at bytes c else c
remade unsynced number synced (Cut file to) f c = if f == file then cut_by (at_step unsynced (nat_lt number (synced file))) to c else c
remade unsynced number synced (Sync file) f c = c
remade unsynced number synced (Emit bytes) f c = c
