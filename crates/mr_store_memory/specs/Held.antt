-- Families in memory that have what the files say.
use Rattle.std.specs.Prelude.{◌≡◌, ◌≤◌, ◌<◌, ◌^◌, ℕ, true, if◌then◌else◌, is_some, List, [], ◌∷◌}
use Rattle.mr_base.specs.Disk.{Image}
use Rattle.mr_base.specs.declared.stop.Direction.{Direction}
use Rattle.mr_wal.specs.declared.operation.Operation.{Operation}
use Rattle.mr_manifest.specs.declared.live.LiveRun.{LiveRun}
use Rattle.mr_engine_log.specs.declared.batched.Batched.{Batched}
use Rattle.mr_family.specs.Family.{direction}
use Rattle.mr_families.specs.declared.numbered.Numbered.{Numbered}
use Rattle.mr_families.specs.Known.{family_at}
use Rattle.mr_families.specs.Batches.{is_on}
use Rattle.mr_stored.specs.Names.{family_key, is_named, names, put_direction, named_direction}
use Rattle.mr_stored.specs.Lists.{levels_of, with_batches, system_of, direction_of, AreNamed}

-- Over this image, where these are the live runs and these batches count: the runs of each family are open, its memory has what the batches
-- bring it, and its direction is that of its record.
pub record Held (ns : List Numbered) (image : Image) (live_runs : List LiveRun) (batches : List Batched) : Type 0 where
  pub named : AreNamed image live_runs batches
  pub levels : (f : ℕ) → (family_at ns f).levels ≡ levels_of (direction (family_at ns f)) f image live_runs
  pub memory : (f : ℕ) → (family_at ns f).memtable.versions ≡ with_batches (direction (family_at ns f)) f batches []
  pub directions : (f : ℕ) → f < 2 ^ 32 → is_named (system_of image live_runs batches) f ≡ true → direction (family_at ns f) ≡ direction_of image live_runs batches f

-- families that a batch names have the direction that it gives them
abbrev pub AreTurned : List Numbered → List Operation → Type 0
AreTurned ns batch = (f : ℕ) → 2 ≤ f → f < 2 ^ 32 → names f batch ≡ true → direction (family_at ns f) ≡ named_direction f batch

-- ---- a batch's names, one operation after the other

-- the direction of a family after a record of it, or else as it was
abbrev pub turned_by : ℕ → Operation → Direction → Direction
turned_by family o d = if is_on 0 (family_key family) o then (if is_some o.put then put_direction o.put else d) else d

abbrev pub turned : ℕ → List Operation → Direction → Direction
turned family [] d = d
turned family (o ∷ os) d = turned family os (turned_by family o d)
