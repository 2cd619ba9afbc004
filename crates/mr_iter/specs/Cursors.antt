-- What a cursor means.
use Rattle.std.specs.Prelude.{◌≡◌, ℕ, ◌-◌, ◌≤◌, Bool, drop, List, [], ◌∷◌, Option, Some, None}
use Rattle.std.specs.List.{AllByRecursion}
use Rattle.mr_base.specs.Disk.{State, Tells, Image, HasRisen, seen}
use Rattle.mr_base.specs.Calls.{Counts}
use Rattle.mr_base.specs.declared.stop.Stop.{Stop}
use Rattle.mr_base.specs.declared.stop.Stop.TheVariants.{Memory, Disk, Full, Damaged}
use Rattle.mr_iter.specs.Versions.{Version}
use Rattle.mr_base.specs.declared.stop.Direction.{Direction}

-- A cursor: its direction, the files that it reads, its list of versions by what these files have, the version that it stands
-- on, those behind it, how many steps are left at most, how many ever can be, and the reads and bytes asked for since the last seek. Then, for bounds on these:
-- whether a seek counts anew, so that one that failed has counted no more than a walk to the end may; whether no version stands
-- twice among those that it goes over; whether its last seek was for this key, or for one that costs
-- the same; and what it may have read, and asked for, from a seek for a key up to a version, or up to the end.
pub record CursorState : Type 0 where
  pub direction : Direction
  pub files : List ℕ
  pub versions : Image → List Version
  pub current : Option Version
  pub rest : Image → List Version
  pub steps : ℕ
  pub most : ℕ
  pub reads : ℕ
  pub asked : ℕ
  pub anew : Bool
  pub distinct : Image → Bool
  pub sought : List ℕ → Bool
  pub reads_to : Image → List ℕ → Option Version → ℕ
  pub asked_to : Image → List ℕ → Option Version → ℕ

-- what is left of the list, the version that it stands on first
abbrev pub with_current : Option Version → List Version → List Version
with_current None vs = []
with_current (Some v) vs = v ∷ vs

abbrev pub left : CursorState → Image → List Version
left s image = with_current s.current (s.rest image)

-- a move keeps what the cursor is a cursor of
pub record SameList (old new : CursorState) : Type 0 where
  pub direction : new.direction ≡ old.direction
  pub files : new.files ≡ old.files
  pub most : new.most ≡ old.most
  pub anew : new.anew ≡ old.anew
  pub versions : (image : Image) → new.versions image ≡ old.versions image
  pub distinct : (image : Image) → new.distinct image ≡ old.distinct image
  pub reads_to : (image : Image) (key : List ℕ) (place : Option Version) → new.reads_to image key place ≡ old.reads_to image key place
  pub asked_to : (image : Image) (key : List ℕ) (place : Option Version) → new.asked_to image key place ≡ old.asked_to image key place

-- two images have the same in these files
abbrev pub SameFiles : List ℕ → Image → Image → Type 0
SameFiles files i j = AllByRecursion (λ file. i file ≡ j file) files

-- the cursor says the same by either of two images
pub record SaysSame (s : CursorState) (i j : Image) : Type 0 where
  pub versions : s.versions i ≡ s.versions j
  pub rest : s.rest i ≡ s.rest j
  pub distinct : s.distinct i ≡ s.distinct j
  pub reads_to : (key : List ℕ) (place : Option Version) → s.reads_to i key place ≡ s.reads_to j key place
  pub asked_to : (key : List ℕ) (place : Option Version) → s.asked_to i key place ≡ s.asked_to j key place

-- what the disk counts is at most what the cursor counts
pub record CountsStep (before after : CursorState) (old new : State) : Type 0 where
  pub reads : before.reads ≤ after.reads
  pub asked : before.asked ≤ after.asked
  pub disk : Counts (after.reads - before.reads) (after.asked - before.asked) 0 old new

-- this file and place are an offence in an image; where the disk tells its contents, that image is what a read gives
pub record IsDamage (offends : Image → ℕ → ℕ → Type 0) (old : State) (file at : ℕ) : Type 0 where
  pub image : Image
  pub told : Tells old → image ≡ seen old
  pub offence : offends image file at

-- a stop of a cursor and its cause; damage only at an offence of the cursor's files
abbrev pub MayStop : (Image → ℕ → ℕ → Type 0) → State → State → Stop → Type 0
MayStop offends old new Memory = Unit {0}
MayStop offends old new Disk = HasRisen old.faults new.faults
MayStop offends old new (Full what at limit) = ⊥
MayStop offends old new (Damaged file at) = IsDamage offends old file at

-- what is left is an end of its list
pub record IsInPlace (s : CursorState) (image : Image) : Type 0 where
  pub passed : ℕ
  pub rest : left s image ≡ drop passed (s.versions image)

-- what it read since its last seek, where that was for this key, is at most what it may have read up to where it stands
pub record IsWithinBound (s : CursorState) (image : Image) (key : List ℕ) : Type 0 where
  pub reads : s.reads ≤ s.reads_to image key s.current
  pub asked : s.asked ≤ s.asked_to image key s.current

-- what it read since its last seek, where that was for this key, is at most what it may have read up to the end
pub record IsWithinEnd (s : CursorState) (image : Image) (key : List ℕ) : Type 0 where
  pub reads : s.reads ≤ s.reads_to image key None
  pub asked : s.asked ≤ s.asked_to image key None

-- what it may have read up to a version is at most what it may have read up to the end
pub record GrowsToEnd (s : CursorState) (image : Image) (key : List ℕ) (place : Option Version) : Type 0 where
  pub reads : s.reads_to image key place ≤ s.reads_to image key None
  pub asked : s.asked_to image key place ≤ s.asked_to image key None
