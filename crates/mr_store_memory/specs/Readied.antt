-- What a batch's families become before it is written: named ones have their direction, and there is room. None has other versions.
use Rattle.std.specs.Prelude.{◌≡◌, ◌⊎◌, ◌≤◌, ◌<◌, ◌^◌, ℕ, true, List}
use Rattle.mr_base.specs.Disk.{Image}
use Rattle.mr_wal.specs.declared.operation.Operation.{Operation}
use Rattle.mr_iter.specs.Children.{AnyOf}
use Rattle.mr_family.specs.Family.{FamilyState, direction, versions}
use Rattle.mr_families.specs.declared.numbered.Numbered.{Numbered}
use Rattle.mr_families.specs.Known.{family_at, empty_family, is_empty}
use Rattle.mr_families.specs.Changed.{without_room}
use Rattle.mr_families.specs.Batches.{is_on}
use Rattle.mr_stored.specs.Names.{family_key}
use Rattle.mr_store_memory.specs.Held.{turned}

-- an empty family of which the batch has a record is an empty one, of this or that direction
pub record IsRelearnt (f : ℕ) (batch : List Operation) (old new : FamilyState) : Type 0 where
  pub far : 2 ≤ f
  pub told : AnyOf (λ (o : Operation). is_on 0 (family_key f) o ≡ true) batch
  pub was_empty : is_empty old ≡ true
  pub now : without_room new ≡ empty_family (direction new)

-- each family is as it was but for its room, or it is empty and the batch has a record of it
pub record Readied (batch : List Operation) (old new : List Numbered) : Type 0 where
  pub each : (f : ℕ) → (without_room (family_at new f) ≡ without_room (family_at old f)) ⊎ IsRelearnt f batch (family_at old f) (family_at new f)
  pub versions_are : (f : ℕ) (image : Image) → versions (family_at new f) image ≡ versions (family_at old f) image

-- an empty family has the direction that these operations give it
abbrev pub AreTurnedBy : List Operation → List Numbered → List Numbered → Type 0
AreTurnedBy os old new = (f : ℕ) → 2 ≤ f → f < 2 ^ 32 → is_empty (family_at old f) ≡ true → direction (family_at new f) ≡ turned f os (direction (family_at old f))
