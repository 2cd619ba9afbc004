-- Families that are filled, by number.
use Rattle.std.specs.Prelude.{◌≡◌, ◌<◌, ◌^◌, ℕ, true, List, Err}
use Rattle.mr_base.specs.Disk.{State, Tells, Image, HasRisen, seen}
use Rattle.mr_base.specs.declared.stop.Stop.{Stop}
use Rattle.mr_base.specs.declared.stop.Stop.TheVariants.{Memory, Disk, Full, Damaged}
use Rattle.mr_iter.specs.Children.{AnyOf}
use Rattle.mr_run_file.specs.Reading.{recorded_in}
use Rattle.mr_manifest.specs.declared.live.LiveRun.{LiveRun}
use Rattle.mr_engine_log.specs.declared.batched.Batched.{Batched}
use Rattle.mr_family.specs.Family.{FamilyState, direction}
use Rattle.mr_families.specs.declared.numbered.Numbered.{Numbered}
use Rattle.mr_families.specs.Known.{family_at, empty_family}
use Rattle.mr_stored.specs.Names.{is_named}
use Rattle.mr_stored.specs.Lists.{runs_of, with_runs, with_batches, system_of, direction_of}

-- its runs of these are open, each in its level, by the indexes that the image has
pub record HasOpened (f : ℕ) (image : Image) (runs : List LiveRun) (old new : FamilyState) : Type 0 where
  pub levels : new.levels ≡ with_runs (direction old) image (runs_of f runs) old.levels
  pub memtable : new.memtable ≡ old.memtable
  pub cached : new.cached ≡ old.cached

abbrev pub HaveOpened : Image → List LiveRun → List Numbered → List Numbered → Type 0
HaveOpened image runs old new = (f : ℕ) → HasOpened f image runs (family_at old f) (family_at new f)

-- a run of these hasn't the structure that is recorded, and that is the offence
abbrev pub IsRunOffence : Image → List LiveRun → ℕ → ℕ → Type 0
IsRunOffence image runs file at = AnyOf (λ (run : LiveRun). (file ≡ run.file) × (recorded_in run.length run.entries (image run.file) ≡ Err at)) runs

-- why runs aren't opened
abbrev pub OpeningStops : List LiveRun → State → State → Stop → Type 0
OpeningStops runs old new Memory = Unit {0}
OpeningStops runs old new Disk = HasRisen old.faults new.faults
OpeningStops runs old new (Full what at limit) = ⊥
OpeningStops runs old new (Damaged file at) = Tells old → IsRunOffence (seen old) runs file at

-- its versions in memory have its own operations of these batches
pub record HasAdded (f : ℕ) (batches : List Batched) (old new : FamilyState) : Type 0 where
  pub versions : new.memtable.versions ≡ with_batches (direction old) f batches old.memtable.versions
  pub levels : new.levels ≡ old.levels
  pub cached : new.cached ≡ old.cached

abbrev pub HaveAdded : List Batched → List Numbered → List Numbered → Type 0
HaveAdded batches old new = (f : ℕ) → HasAdded f batches (family_at old f) (family_at new f)

-- ---- before and behind

-- no family has anything yet
abbrev pub AreEmpty : List Numbered → Type 0
AreEmpty ns = (f : ℕ) → family_at ns f ≡ empty_family (direction (family_at ns f))

-- families that are named have the direction of their record
abbrev pub AreDirected : Image → List LiveRun → List Batched → List Numbered → Type 0
AreDirected image runs batches ns = (f : ℕ) → f < 2 ^ 32 → is_named (system_of image runs batches) f ≡ true → direction (family_at ns f) ≡ direction_of image runs batches f
