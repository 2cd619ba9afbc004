-- Families by their numbers.
use Rattle.std.specs.Prelude.{◌≡◌, ◌==◌, ◌&&◌, ℕ, ◌<◌, ◌≤◌, Bool, true, false, not, if◌then◌else◌, List, [], ◌∷◌, length, map, slice_index_or}
use Rattle.mr_base.specs.declared.stop.Direction.{Direction}
use Rattle.mr_base.specs.declared.stop.Direction.TheVariants.{Forward}
use Rattle.mr_memtable.specs.Tables.{MemState}
use Rattle.mr_levels.specs.Levels.{no_runs, runs}
use Rattle.mr_family.specs.Family.{FamilyState}
use Rattle.mr_families.specs.declared.numbered.Numbered.{Numbered}

-- no version in memory, and no room
abbrev pub empty_memory : Direction → MemState
empty_memory d = record { direction = d; versions = []; entries = 0; bytes = 0 }

-- no version, no run and no room
abbrev pub empty_family : Direction → FamilyState
empty_family d = record { memtable = empty_memory d; levels = no_runs d; cached = [] }

-- The family of a number; one that isn't known is forward and empty.
abbrev pub family_at : List Numbered → ℕ → FamilyState
family_at [] number = empty_family Forward
family_at (n ∷ ns) number = if n.number == number then n.family else family_at ns number

abbrev pub numbers : List Numbered → List ℕ
numbers ns = map (λ (n : Numbered). n.number) ns

abbrev pub is_listed : List ℕ → ℕ → Bool
is_listed [] number = false
is_listed (n ∷ ns) number = if n == number then true else is_listed ns number

abbrev pub is_known : List Numbered → ℕ → Bool
is_known ns number = is_listed (numbers ns) number

-- ---- whether there is anything

abbrev pub has_versions : FamilyState → Bool
has_versions f = not (length f.memtable.versions == 0)

abbrev pub has_runs : FamilyState → Bool
has_runs f = not (length (runs f.levels) == 0)

-- it has no version in memory and no run, whatever room it has
abbrev pub is_empty : FamilyState → Bool
is_empty f = not (has_versions f) && not (has_runs f)

abbrev pub are_out_of_memory : List Numbered → Bool
are_out_of_memory [] = true
are_out_of_memory (n ∷ ns) = not (has_versions n.family) && are_out_of_memory ns

-- ---- how the list is kept

abbrev pub no_one : Numbered
no_one = record { number = 0; family = empty_family Forward; in_memory = false; is_fresh = true }

abbrev pub one_at : List Numbered → ℕ → Numbered
one_at ns i = slice_index_or ns i no_one

-- the numbers rise, so none stands twice
abbrev pub AreAscending : List Numbered → Type 0
AreAscending ns = (i j : ℕ) → i < j → j < length ns → (one_at ns i).number < (one_at ns j).number

-- what stands beside a family is true of it, and it has four levels behind its newest runs
pub record IsTold (n : Numbered) : Type 0 where
  pub in_memory : n.in_memory ≡ has_versions n.family
  pub is_fresh : n.is_fresh ≡ is_empty n.family
  pub four : length n.family.levels.deeper ≡ 4

pub record AreKept (ns : List Numbered) : Type 0 where
  pub ascending : AreAscending ns
  pub told : (i : ℕ) → i < length ns → IsTold (one_at ns i)

-- ---- places

-- the family at place i has the number
pub record IsAt (ns : List Numbered) (number i : ℕ) : Type 0 where
  pub in_range : i < length ns
  pub has_number : (one_at ns i).number ≡ number

-- the number would stand at place i: smaller ones before it, and greater ones from it on
pub record IsGapFor (ns : List Numbered) (number i : ℕ) : Type 0 where
  pub in_range : i ≤ length ns
  pub smaller_before : (j : ℕ) → j < i → (one_at ns j).number < number
  pub greater_after : (j : ℕ) → i ≤ j → j < length ns → number < (one_at ns j).number
