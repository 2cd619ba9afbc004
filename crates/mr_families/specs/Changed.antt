-- What a call changes of the families.
use Rattle.std.specs.Prelude.{◌≡◌, ◌==◌, ◌&&◌, ℕ, Bool, true, false, not, if◌then◌else◌, List}
use Rattle.mr_base.specs.Disk.{Image}
use Rattle.mr_base.specs.declared.stop.Direction.{Direction}
use Rattle.mr_base.specs.declared.stop.Direction.TheVariants.{Forward, Reverse}
use Rattle.mr_family.specs.Family.{FamilyState, direction, versions}
use Rattle.mr_families.specs.declared.numbered.Numbered.{Numbered}
use Rattle.mr_families.specs.Known.{family_at, numbers, is_known, empty_family, is_empty}

-- nothing but the family of this number changes
pub record OnlyAt (number : ℕ) (old new : List Numbered) : Type 0 where
  pub listed : numbers new ≡ numbers old
  pub others : (f : ℕ) → (number == f) ≡ false → family_at new f ≡ family_at old f

abbrev pub is_same : Direction → Direction → Bool
is_same Forward Forward = true
is_same Forward Reverse = false
is_same Reverse Forward = false
is_same Reverse Reverse = true

-- a family that is learnt with a direction: an empty one of another direction is an empty one of this without room, any other is as it was
abbrev pub learnt : Direction → FamilyState → FamilyState
learnt d f = if is_empty f && not (is_same d (direction f)) then empty_family d else f

-- The number is known, with this direction unless it had something in another one. No family has other versions.
pub record Learnt (number : ℕ) (d : Direction) (old new : List Numbered) : Type 0 where
  pub known : (f : ℕ) → is_known new f ≡ (if number == f then true else is_known old f)
  pub own : family_at new number ≡ learnt d (family_at old number)
  pub direction_is : direction (family_at new number) ≡ (if is_empty (family_at old number) then d else direction (family_at old number))
  pub others : (f : ℕ) → (number == f) ≡ false → family_at new f ≡ family_at old f
  pub versions_are : (f : ℕ) (image : Image) → versions (family_at new f) image ≡ versions (family_at old f) image

-- a family but for its room
abbrev pub without_room : FamilyState → FamilyState
without_room f = record { memtable = record { direction = f.memtable.direction; versions = f.memtable.versions; entries = 0; bytes = 0 }; levels = f.levels; cached = f.cached }

-- nothing but the rooms changes
pub record SameButRooms (old new : List Numbered) : Type 0 where
  pub listed : numbers new ≡ numbers old
  pub families : (f : ℕ) → without_room (family_at new f) ≡ without_room (family_at old f)
