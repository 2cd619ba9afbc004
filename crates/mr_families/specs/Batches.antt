-- A batch in its families.
use Rattle.std.specs.Prelude.{◌≡◌, ◌==◌, ◌&&◌, ℕ, ◌+◌, ◌≤◌, Bool, true, false, if◌then◌else◌, List, [], ◌∷◌, length, unwrap_or}
use Rattle.std.specs.List.{AllByRecursion}
use Rattle.mr_base.specs.Disk.{Image}
use Rattle.mr_base.specs.declared.stop.Direction.{Direction}
use Rattle.mr_iter.specs.Versions.{Version, as_version, version_cmp, place_in}
use Rattle.mr_iter.specs.Newest.{is_of}
use Rattle.mr_wal.specs.declared.operation.Operation.{Operation}
use Rattle.mr_family.specs.Family.{FamilyState, direction, versions}
use Rattle.mr_families.specs.declared.numbered.Numbered.{Numbered}
use Rattle.mr_families.specs.Known.{family_at, numbers, is_known}

-- what an operation writes under a number
abbrev pub version_of : ℕ → Operation → Version
version_of sequence o = as_version o.key sequence o.put

-- these operations under a number, of which the family takes its own, one after another
abbrev pub with_operations : Direction → ℕ → ℕ → List Operation → List Version → List Version
with_operations d family sequence [] vs = vs
with_operations d family sequence (o ∷ os) vs = with_operations d family sequence os (if o.family == family then place_in (version_cmp d) (version_of sequence o) vs else vs)

-- ---- room

-- the bytes of an operation's key and value
abbrev pub size_of : Operation → ℕ
size_of o = length o.key + length (unwrap_or o.put [])

abbrev pub entries_for : ℕ → List Operation → ℕ
entries_for family [] = 0
entries_for family (o ∷ os) = (if o.family == family then 1 else 0) + entries_for family os

abbrev pub bytes_for : ℕ → List Operation → ℕ
bytes_for family [] = 0
bytes_for family (o ∷ os) = (if o.family == family then size_of o else 0) + bytes_for family os

abbrev pub AreKnown : List Numbered → List Operation → Type 0
AreKnown ns os = AllByRecursion (λ (o : Operation). is_known ns o.family ≡ true) os

-- all their families are known, and each has room for its own of them
pub record AreAwaited (ns : List Numbered) (os : List Operation) : Type 0 where
  pub known : AreKnown ns os
  pub entries : (f : ℕ) → entries_for f os ≤ (family_at ns f).memtable.entries
  pub bytes : (f : ℕ) → bytes_for f os ≤ (family_at ns f).memtable.bytes

-- ---- what a batch adds

-- the family has its own operations of these more, and room for so much less; nothing else of it changes
pub record Takes (family sequence : ℕ) (os : List Operation) (old new : FamilyState) : Type 0 where
  pub versions_are : (image : Image) → versions new image ≡ with_operations (direction old) family sequence os (versions old image)
  pub in_memory : new.memtable.versions ≡ with_operations (direction old) family sequence os old.memtable.versions
  pub direction_is : new.memtable.direction ≡ old.memtable.direction
  pub entries : new.memtable.entries + entries_for family os ≡ old.memtable.entries
  pub bytes : new.memtable.bytes + bytes_for family os ≡ old.memtable.bytes
  pub levels : new.levels ≡ old.levels
  pub cached : new.cached ≡ old.cached

-- each family has its own of these operations more, and nothing else
pub record Added (sequence : ℕ) (os : List Operation) (old new : List Numbered) : Type 0 where
  pub listed : numbers new ≡ numbers old
  pub families : (f : ℕ) → Takes f sequence os (family_at old f) (family_at new f)

-- ---- versions and numbers

-- no version has a greater number
abbrev pub AreUpTo : ℕ → List Version → Type 0
AreUpTo number vs = AllByRecursion (λ (v : Version). v.sequence ≤ number) vs

-- the operation is one of a key of this family
abbrev pub is_on : ℕ → List ℕ → Operation → Bool
is_on family key o = o.family == family && is_of key (version_of 0 o)

-- no operation is one of this key of the family
abbrev pub NoneOn : ℕ → List ℕ → List Operation → Type 0
NoneOn family key os = AllByRecursion (λ (o : Operation). is_on family key o ≡ false) os
